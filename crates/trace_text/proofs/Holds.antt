-- What holds of what a line says, by cases.
use Rattle.std.proofs.Common.{◌≡◌, ℕ, Bool, true, false, List, Option, Some, None, Err, refl}
use Rattle.std.specs.Prelude.{if◌then◌else◌}
use Rattle.trace_text.specs.Lines.{Said, with_words}
use Rattle.trace_text.specs.declared.fault.LineFault.TheVariants.{BadWord}

module _ (Holds : Said → Type 0) where
  pub by_test : (b : Bool) (r s : Said) → (b ≡ true → Holds r) → (b ≡ false → Holds s) → Holds (if b then r else s)
  by_test true r s f g = f refl
  by_test false r s f g = g refl

  pub by_words : (last : ℕ) (said : List ℕ → Said) (words : Option (List ℕ)) → Holds (Err (BadWord last)) → ((rest : List ℕ) → words ≡ Some rest → Holds (said rest)) → Holds (with_words last said words)
  by_words last said None missing holds = missing
  by_words last said (Some rest) missing holds = holds rest refl
