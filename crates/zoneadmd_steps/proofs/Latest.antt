-- The latest step that is to be undone.
use Rattle.std.proofs.Common.{◌≡◌, ◌∷◌, ◌++◌, ◌∙◌, [], List, Option, Some, None, true, ap, reverse}
use Rattle.std.specs.Prelude.{is_some}
use Rattle.std.proofs.lemmas.Bool.{false≢true}
use Rattle.std.proofs.lemmas.List.{reverse-append}
use Rattle.zoneadmd_steps.specs.Code.Desks.{as_outcome, stage_of}
use Rattle.zoneadmd_steps.specs.Desks.{Fails}
use Rattle.zoneadmd_steps.specs.declared.requests.Failure.{Failure}
use Rattle.zoneadmd_steps.specs.declared.requests.Outcome.{Outcome}
use Rattle.zoneadmd_steps.specs.declared.requests.Step.{Step}

pub latest : {A : Type 0} (items front : List A) (x : A) → items ≡ front ++ x ∷ [] → reverse items ≡ x ∷ reverse front
latest items front x split = ap reverse split ∙ reverse-append front (x ∷ [])

-- where a request fails, it is undone first
pub failing : (f : Option Failure) (left made rest : List Step) (s : Step) → is_some f ≡ true → made ≡ s ∷ rest → (outcome : Outcome) × (back : List Step) × (stage_of f left made ≡ Fails outcome (s ∷ back))
failing None left made rest s h e = absurd (false≢true h)
failing (Some f) left made rest s h e = (as_outcome f, rest, ap (Fails (as_outcome f)) e)
