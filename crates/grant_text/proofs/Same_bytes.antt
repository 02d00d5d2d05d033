-- What a test whether a word is some fixed bytes says.
use Rattle.std.proofs.Common.{◌≡◌, ◌∙◌, ℕ, List, false, true, sym, true≢false}
use Rattle.std.specs.Prelude.{bytes_eq}
use Rattle.std.proofs.lemmas.Slice.Eq.{bytes_eq-Decides}

pub is_fixed : (word read fixed : List ℕ) → true ≡ bytes_eq word read → read ≡ fixed → word ≡ fixed
is_fixed word read fixed test is = (bytes_eq-Decides word read).0 (sym test) ∙ is

pub is_another : (word read fixed : List ℕ) → false ≡ bytes_eq word read → read ≡ fixed → word ≡ fixed → ⊥
is_another word read fixed test is same = true≢false (sym ((bytes_eq-Decides word read).1 (same ∙ sym is)) ∙ sym test)
