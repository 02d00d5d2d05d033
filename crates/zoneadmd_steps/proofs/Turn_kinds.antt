-- A turn is local, or it isn't.
use Rattle.std.proofs.Common.{◌≡◌, ◌∷◌, ◌∙◌, [], ℕ, List, Option, Some, None, true, ap, drop, refl, reverse, sym}
use Rattle.std.specs.Option.{option_map}
use Rattle.std.specs.Prelude.{IsSomeAnd}
use Rattle.brand_hooks.specs.Brands.{Tabled}
use Rattle.zone_pools.specs.Decisions.{Just}
use Rattle.zoneadmd_steps.specs.Code.Desks.{as_desk, as_job, stage_of}
use Rattle.zoneadmd_steps.specs.Code.Shareds.{is_apart, is_left}
use Rattle.zoneadmd_steps.specs.Desks as desks
use Rattle.zoneadmd_steps.specs.Objects.{Objects}
use Rattle.zoneadmd_steps.specs.Turns.{A_claim_left, A_mount, A_step, Next, Nothing_left, Seen, Turn_decision, Turned, local_job, local_next, local_stage, local_step, local_turn, next, next_request, nothing_done, or_shared, shared_turn, turn}
use Rattle.zoneadmd_steps.specs.declared.desks.Desk.{Desk}
use Rattle.zoneadmd_steps.specs.declared.desks.Job.{Job}
use Rattle.zoneadmd_steps.specs.declared.requests.Request.{Request}
use Rattle.zoneadmd_steps.specs.declared.requests.Step.{Step}
use Rattle.zoneadmd_steps.specs.declared.requests.Step.TheVariants.{Hook, Copy, Erase, Limits, Root, Mounted}

pub nothing_stored : (brands : List Tabled) (d : desks.Desk) (rs : List (ℕ × Request)) → next_request brands d rs None ≡ nothing_done d
nothing_stored brands d [] = refl
nothing_stored brands d (r ∷ rs) = refl

-- what no local turn does
left_of : (brands : List Tabled) (o : Objects) (d : desks.Desk) (j : desks.Job) (rest : List Step) (s : Step) → local_step brands o d j rest s ≡ None → is_left s ≡ true
left_of brands o d j rest (Hook x) h = absurd (cc)
left_of brands o d j rest (Copy x) h = absurd (cc)
left_of brands o d j rest (Erase x) h = absurd (cc)
left_of brands o d j rest Limits h = absurd (cc)
left_of brands o d j rest Root h = absurd (cc)
left_of brands o d j rest (Mounted x) h = absurd (cc)
left_of brands o d j rest _ h = refl

apart_of : (brands : List Tabled) (o : Objects) (d : desks.Desk) (j : desks.Job) (n : Next) → local_next brands o d j n ≡ None → is_apart n ≡ true
apart_of brands o d j Nothing_left h = refl
apart_of brands o d j (A_step s rest) h = left_of brands o d j rest s h
apart_of brands o d j (A_mount m left) h = absurd (cc)
apart_of brands o d j (A_claim_left c left) h = refl

pub apart : (brands : List Tabled) (o : Objects) (d : Desk) (j : Job) → local_turn brands o (as_desk d) ≡ None → d.job ≡ Some j → j.failure ≡ None → is_apart (next o (drop j.at j.steps)) ≡ true
unfolding local_turn
apart brands o d j h is goes =
    apart_of brands o (as_desk d) (as_job j) _ (ap (λ f. local_stage brands o (as_desk d) (as_job j) (stage_of f (drop j.at j.steps) (reverse j.made.items))) (sym goes) ∙ (ap (λ q. local_job brands o (as_desk d) (option_map as_job q)) (sym is) ∙ h))

pub if_local : (v : Seen) (d : Turn_decision) → IsSomeAnd (local_turn v.brands v.objects v.desk) (λ t. Just t ≡ d) → turn v ≡ d
unfolding turn
if_local v d h = at_turn (local_turn v.brands v.objects v.desk) h
  where
    at_turn : (o : Option Turned) → IsSomeAnd o (λ t. Just t ≡ d) → or_shared (shared_turn v v.desk.job) o ≡ d
    at_turn None h = absurd h
    at_turn (Some t) h = h

pub if_shared : (v : Seen) (d : Turn_decision) → local_turn v.brands v.objects v.desk ≡ None → shared_turn v v.desk.job ≡ d → turn v ≡ d
unfolding turn
if_shared v d none h = rw none h
