-- The first refused entry does not depend on the text that stands before it.
use Rattle.std.proofs.Common.{◌≡◌, ◌∙◌, ℕ, List, None, Option, Some, [], ap, refl, subst, sym}
use Rattle.zn_io.specs.Streams.{after_known}
use Rattle.zones_run.specs.Run.{IsDecided, TellsLine, TellsText}
use Rattle.zones_live.specs.Records.{told_refused}
use Rattle.zones_live.proofs.Written.{front-all}

told-out : (text : List ℕ) (refused : Option ℕ) → (told_refused text refused).out ≡ text
told-out text None = refl
told-out text (Some number) = refl

told-err : (text : List ℕ) (refused : Option ℕ) → (told_refused text refused).err ≡ (told_refused [] refused).err
told-err text None = refl
told-err text (Some number) = refl

told-status : (text : List ℕ) (refused : Option ℕ) → (told_refused text refused).status ≡ (told_refused [] refused).status
told-status text None = refl
told-status text (Some number) = refl

-- the whole text was written
pub text-whole : (text : List ℕ) (refused : Option ℕ) (status : ℕ) (held holds : Option (List ℕ)) → holds ≡ after_known held text → (IsDecided status → status ≡ (told_refused [] refused).status) → TellsText (told_refused text refused) status held holds
text-whole text refused status held holds all is = record {
  decided = λ d. record { status_is = is d ∙ sym (told-status text refused); taken = all ∙ ap (after_known held) (sym (told-out text refused)) };
  front = λ f. front-all held holds (told_refused text refused).out (all ∙ ap (after_known held) (sym (told-out text refused)));
}

pub line-behind : (text : List ℕ) (refused : Option ℕ) (status : ℕ) (held holds : Option (List ℕ)) (before now : ℕ) → TellsLine (told_refused [] refused).err status held holds before now → TellsLine (told_refused text refused).err status held holds before now
line-behind text refused status held holds before now line = subst (λ (l : List ℕ). TellsLine l status held holds before now) (sym (told-err text refused)) line
