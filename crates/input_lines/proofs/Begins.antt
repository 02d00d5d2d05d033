-- What was taken of a source: lines, the beginning of one, and a piece.
use Rattle.std.proofs.Common.{◌≡◌, ◌≤◌, ◌++◌, ℕ, List, [], false, length, Option, Some, None, refl, ap, sym, ◌∙◌, arith, append_assoc}
use Rattle.std.proofs.lemmas.List.{append-nil}
use Rattle.zn_io.specs.Streams.{before_known}
use Rattle.input_lines.specs.Lines.{has_newline}
use Rattle.input_lines.specs.Taking.{BeginsLine, TakesPiece}

pub before_known-nil : (known : Option (List ℕ)) → known ≡ before_known [] known
before_known-nil None = refl
before_known-nil (Some bs) = refl

pub before_known-append : (known : Option (List ℕ)) (xs ys : List ℕ) → before_known (xs ++ ys) known ≡ before_known xs (before_known ys known)
before_known-append None xs ys = refl
before_known-append (Some bs) xs ys = ap Some (append_assoc xs ys bs)

-- what has come of a line, and what is ahead of it
pub takes_ahead : (old left : Option (List ℕ)) (line ahead : List ℕ) → old ≡ before_known line (before_known ahead left) → has_newline line ≡ false → length line ≤ 4096 → length ahead ≤ 4096 → TakesPiece old left
takes_ahead old left line ahead same clean short small = record {
  begun = line;
  clean = clean;
  short = short;
  piece = ahead;
  small = small;
  taken = same ∙ sym (before_known-append left line ahead);
}

-- what has come of a line, where the source failed
pub begins_line : (old left : Option (List ℕ)) (line : List ℕ) → old ≡ before_known line left → has_newline line ≡ false → length line ≤ 4096 → BeginsLine old left
begins_line old left line same clean short = (
  record {
    begun = line;
    clean = clean;
    short = short;
    piece = [];
    small = omega arith;
    taken = same ∙ ap (λ bytes. before_known bytes left) (sym (append-nil line));
  },
  refl,
)

-- nothing of a line was begun
pub takes_none : (old left : Option (List ℕ)) → old ≡ left → BeginsLine old left
takes_none old left same = begins_line old left [] (same ∙ before_known-nil left) refl (omega arith)

-- only what is ahead was taken
pub takes_just : (ahead : List ℕ) (old left : Option (List ℕ)) → old ≡ before_known ahead left → length ahead ≤ 4096 → TakesPiece old left
takes_just ahead old left same small = takes_ahead old left [] ahead (same ∙ before_known-nil (before_known ahead left)) refl (omega arith) small

-- the same of bytes that are known
abbrev pub takes_known : (old left : Option (List ℕ)) (to_come : List ℕ) → old ≡ Some to_come → TakesPiece old left → TakesPiece (Some to_come) left
takes_known old left to_come here takes = record {
  begun = takes.begun;
  clean = takes.clean;
  short = takes.short;
  piece = takes.piece;
  small = takes.small;
  taken = sym here ∙ takes.taken;
}
