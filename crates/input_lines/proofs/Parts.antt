-- What stands before the first newline, moved onto a line.
use Rattle.std.proofs.Common.{◌≡◌, ◌+◌, ◌≤◌, ◌++◌, ℕ, List, Some, None, true, false, length, take, drop, ap, sym, ◌∙◌, arith, length-append}
use Rattle.std.proofs.lemmas.List.{drop_all, length-take-le}
use Rattle.std.proofs.lemmas.Option.{cond_some}
use Rattle.std.proofs.lemmas.List.Quantifiers.{position-Some}
use Rattle.std.specs.List.{position, position_or_len}
use Rattle.zn_base.specs.Lines.{is_newline}
use Rattle.input_lines.specs.Lines.{has_newline}
use Rattle.input_lines.specs.Reading.{MovesPart}
use Rattle.input_lines.proofs.Cuts.{found_some, found_none, all_front, none_behind}

-- a newline at a place ends the part there
pub part_ends : (line new_line ahead new_ahead : List ℕ) (at : ℕ) → position is_newline ahead ≡ Some at → new_line ≡ line ++ take at ahead → new_ahead ≡ drop (at + 1) ahead → length line + at ≤ 4096 → MovesPart line new_line ahead new_ahead × (has_newline ahead ≡ true)
part_ends line new_line ahead new_ahead at found moved rest room =
    let place : position_or_len is_newline ahead ≡ at = (cond_some _ _ _ found).1 in
    let inside = (position-Some is_newline ahead at 0 found).0 in
    let cut : length (take at ahead) ≡ at = length-take-le at ahead (omega (arith, inside)) in (
      record {
        joined = moved ∙ ap (λ n. line ++ take n ahead) (sym place);
        rest = rest ∙ ap (λ n. drop (n + 1) ahead) (sym place);
        short = rw moved (omega (arith, length-append line (take at ahead), cut));
      },
      sym (found_some ahead at found),
    )

-- with no newline all that is ahead is the part
pub part_goes_on : (line new_line ahead new_ahead : List ℕ) → position is_newline ahead ≡ None → new_line ≡ line ++ ahead → new_ahead ≡ drop (length ahead) ahead → length line + length ahead ≤ 4096 → MovesPart line new_line ahead new_ahead × (has_newline ahead ≡ false)
part_goes_on line new_line ahead new_ahead found moved rest room =
    let none : has_newline ahead ≡ false = sym (found_none ahead found) in (
      record {
        joined = moved ∙ ap (λ part. line ++ part) (sym (all_front ahead none));
        rest = rest ∙ drop_all (length ahead) ahead (omega arith) ∙ sym (none_behind ahead none);
        short = rw moved (omega (arith, length-append line ahead));
      },
      none,
    )
