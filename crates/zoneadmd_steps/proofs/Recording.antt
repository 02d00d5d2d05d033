-- A turn stores no record where its next step is none that does.
use Rattle.std.proofs.Common.{◌≡◌, ◌∷◌, ◌∙◌, [], ℕ, List, Bool, Option, Some, None, false, ap, refl, sym}
use Rattle.std.specs.Prelude.{Result, Ok, Err}
use Rattle.std.proofs.lemmas.Bool.{true≢false}
use Rattle.brand_hooks.specs.Brands.{Tabled}
use Rattle.commit_journal.specs.declared.records.Record.{Record}
use Rattle.datalink_table.specs.declared.claims.Claim.{Claim}
use Rattle.loopback_mounts.specs.declared.mount.MountEntry.{MountEntry}
use Rattle.zone_pools.specs.Decisions.{Ask, Just, granted, number_in}
use Rattle.zone_pools.specs.declared.grant.Pool.{Pool}
use Rattle.zoneadmd_steps.specs.Arrivals.{Comes, arrived, in_store}
use Rattle.zoneadmd_steps.specs.Code.Recordings.{StoresNothing, is_record, records_next, stage_records}
use Rattle.zoneadmd_steps.specs.Code.Shareds.{is_of_store}
use Rattle.zoneadmd_steps.specs.Desks.{Desk, Fails, Goes, Job, Stage}
use Rattle.zoneadmd_steps.specs.Objects.{Objects}
use Rattle.zoneadmd_steps.specs.Turns.{A_claim_left, A_mount, A_step, Next, Nothing_left, Seen, Turn_decision, Turned, local_turn, next, next_request, or_shared, over, shared_next, shared_stage, shared_step, shared_turn, turn}
use Rattle.zoneadmd_steps.specs.declared.requests.Request.{Request}
use Rattle.zoneadmd_steps.specs.declared.requests.Request.TheVariants as request
use Rattle.zoneadmd_steps.specs.declared.requests.Step.{Step}
use Rattle.zoneadmd_steps.specs.declared.requests.Step.TheVariants.{Record as Record_step, Moved, Source, Zid, Claimed, Init}

-- nothing is asked for that would be stored
abbrev AsksNone : Turn_decision → Type 0
AsksNone (Just t) = Unit {0}
AsksNone (Ask c asked denied given) = (n : ℕ) → in_store (Some (arrived c n)) ≡ None

granted_none : (c : Comes) (denied : Pool → Turned) (given : ℕ → Turned) → ((n : ℕ) → in_store (Some (arrived c n)) ≡ None) → (r : Result ℕ Pool) → in_store (granted arrived c denied given r).came ≡ None
granted_none c denied given h (Ok n) = h n
granted_none c denied given h (Err pool) = refl

none_of : (t : Turn_decision) → AsksNone t → StoresNothing t
none_of (Just t) h g = refl
none_of (Ask c asked denied given) h g = granted_none c denied given h (number_in g)

of_step : (v : Seen) (j : Job) (rest : List Step) (s : Step) → is_of_store s ≡ false → AsksNone (shared_step v j rest s)
of_step v j rest (Record_step s) h = absurd (true≢false h)
of_step v j rest Moved h = absurd (true≢false h)
of_step v j rest (Source z) h = λ n. refl
of_step v j rest (Zid o) h = λ n. refl
of_step v j rest (Claimed c) h = λ n. refl
of_step v j rest (Init o) h = λ n. refl
of_step v j rest _ h = tt

of_over : (brands : List Tabled) (d : Desk) (j : Job) (stored : Option Record) (r : Request) → AsksNone (over brands d j stored r)
of_over brands d j (Some row) (request.Reboot args) = tt
of_over brands d j None (request.Reboot args) = tt
of_over brands d j stored _ = tt

of_next : (v : Seen) (j : Job) (n : Next) → is_record n ≡ false → AsksNone (shared_next v j n)
of_next v j Nothing_left h = of_over v.brands v.desk j v.stored j.request
of_next v j (A_step s rest) h = of_step v j rest s h
of_next v j (A_mount m left) h = tt
of_next v j (A_claim_left c left) h = tt

of_stage : (v : Seen) (j : Job) (stage : Stage) → stage_records v.objects stage ≡ false → AsksNone (shared_stage v j stage)
of_stage v j (Goes left) h = of_next v j (next v.objects left) h
of_stage v j (Fails outcome []) h = tt
of_stage v j (Fails outcome (s ∷ rest)) h = tt

of_request : (brands : List Tabled) (d : Desk) (rs : List (ℕ × Request)) (stored : Option Record) → AsksNone (next_request brands d rs stored)
of_request brands d (r ∷ rs) (Some row) = tt
of_request brands d (r ∷ rs) None = tt
of_request brands d [] stored = tt

of_job : (v : Seen) (job : Option Job) → records_next v.objects job ≡ false → AsksNone (shared_turn v job)
of_job v None h = of_request v.brands v.desk v.desk.waiting v.stored
of_job v (Some j) h = of_stage v j j.stage h

of_either : (shared : Turn_decision) (l : Option Turned) → AsksNone shared → AsksNone (or_shared shared l)
of_either shared None h = h
of_either shared (Some t) h = tt

none_stored : (v : Seen) → records_next v.objects v.desk.job ≡ false → StoresNothing (turn v)
unfolding turn
none_stored v h = none_of (turn v) (of_either (shared_turn v v.desk.job) (local_turn v.brands v.objects v.desk) (of_job v v.desk.job h))

-- so it is for each turn of a desk whose mounts and claims are these
pub if_none : (d : Desk) (ms : List MountEntry) (cs : List Claim) (b : Bool) → ((o : Objects) → o.mounts ≡ ms → o.claims ≡ cs → b ≡ records_next o d.job) → b ≡ false → (v : Seen) → v.desk ≡ d → v.objects.mounts ≡ ms → v.objects.claims ≡ cs → StoresNothing (turn v)
if_none d ms cs b h e v desk mounts claims = none_stored v (ap (λ d. records_next v.objects d.job) desk ∙ (sym (h v.objects mounts claims) ∙ e))
