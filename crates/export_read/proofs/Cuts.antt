-- Lines and the texts that they are.
use Rattle.std.proofs.Common.{◌≡◌, ℕ, true, false, cond, List, [], ◌∷◌, ◌++◌, refl, ap, ◌∙◌, append_assoc}
use Rattle.std.specs.List.{list_any}
use Rattle.std.proofs.lemmas.Bool.{or_parts}
use Rattle.zn_base.specs.Lines.{is_newline, with_first, lines_of}
use Rattle.export_read.specs.Lines.{ended}

-- a line has no newline
abbrev pub IsOneLine : List ℕ → Type 0
IsOneLine line = list_any is_newline line ≡ false

-- the first line ends at its newline
pub lines_of-line : (line rest : List ℕ) → IsOneLine line → lines_of (line ++ 10 ∷ rest) ≡ line ∷ lines_of rest
lines_of-line [] rest h = refl
lines_of-line (b ∷ line) rest h =
    let h : (is_newline b ≡ false) × (list_any is_newline line ≡ false) = or_parts (is_newline b) (list_any is_newline line) h in
    rw h.0 (ap (with_first b) (lines_of-line line rest h.1))

abbrev pub AreLines : List (List ℕ) → Type 0
AreLines [] = Unit {0}
AreLines (line ∷ lines) = IsOneLine line × AreLines lines

-- lines that are written out are cut again
pub lines_of-ended : (lines : List (List ℕ)) (rest : List ℕ) → AreLines lines → lines_of (ended lines ++ rest) ≡ lines ++ lines_of rest
lines_of-ended [] rest h = refl
lines_of-ended (line ∷ lines) rest h =
    let cut : (line ++ 10 ∷ [] ++ ended lines) ++ rest ≡ line ++ 10 ∷ (ended lines ++ rest) = simp append_assoc refl in
    rw cut (lines_of-line line (ended lines ++ rest) h.0 ∙ ap (λ ls. line ∷ ls) (lines_of-ended lines rest h.1))

-- what is cut are lines
pub lines_are : (bytes : List ℕ) → AreLines (lines_of bytes)
lines_are [] = tt
lines_are (b ∷ bytes) =
    elim (is_newline b) as (λ v. is_newline b ≡ v → AreLines (cond v ([] ∷ lines_of bytes) (with_first b (lines_of bytes)))) [
      | true ↦ λ is. (refl, lines_are bytes)
      | false ↦ λ is. more (lines_of bytes) is (lines_are bytes)
    ] refl
  where
    more : (lines : List (List ℕ)) → is_newline b ≡ false → AreLines lines → AreLines (with_first b lines)
    more [] is h = (rw is refl, tt)
    more (line ∷ lines) is h = (rw is h.0, h.1)
