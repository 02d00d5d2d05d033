-- What is next in a plan, by its first step.
use Rattle.std.proofs.Common.{◌≡◌, ◌≢◌, ◌∷◌, ◌++◌, ◌∙◌, [], ℕ, List, Option, Some, false, ap, refl}
use Rattle.datalink_table.specs.declared.claims.Claim.{Claim}
use Rattle.loopback_mounts.specs.Mounts.{last_of}
use Rattle.zoneadmd_steps.specs.Code.Ahead.{is_for_all}
use Rattle.zoneadmd_steps.specs.Objects.{Objects}
use Rattle.zoneadmd_steps.specs.Turns.{A_claim_left, A_step, next}
use Rattle.zoneadmd_steps.specs.declared.requests.Step.{Step}
use Rattle.zoneadmd_steps.specs.declared.requests.Step.TheVariants.{Release, Unmount}

last_push : {A : Type 0} (xs : List A) (x : A) → last_of (xs ++ x ∷ []) ≡ Some x
last_push [] x = refl
last_push (y ∷ xs) x = rw (last_push xs x) refl

pub last_is : {A : Type 0} (all xs : List A) (x : A) → all ≡ xs ++ x ∷ [] → last_of all ≡ Some x
last_is all xs x e = ap last_of e ∙ last_push xs x

pub next_claim : (o : Objects) (left rest : List Step) (planned : Option Claim) (c : Claim) → left ≡ Release planned ∷ rest → last_of o.claims ≡ Some c → next o left ≡ A_claim_left c left
next_claim o left rest planned c is last = rw (is, last) refl

-- one that stands for no mounts and no claims is next itself
pub next_step : (o : Objects) (s : Step) (rest : List Step) → ((x : Option (List ℕ)) → s ≢ Unmount x) → ((x : Option Claim) → s ≢ Release x) → next o (s ∷ rest) ≡ A_step s rest
next_step o (Unmount x) rest u r = absurd (u x refl)
next_step o (Release x) rest u r = absurd (r x refl)
next_step o _ rest u r = refl

pub for_itself : (s : Step) → ((x : Option (List ℕ)) → s ≢ Unmount x) → ((x : Option Claim) → s ≢ Release x) → is_for_all s ≡ false
for_itself (Unmount x) u r = absurd (u x refl)
for_itself (Release x) u r = absurd (r x refl)
for_itself _ u r = refl
