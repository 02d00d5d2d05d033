-- A place for a new zone is asked where the zone isn't stored, and by no turn.
use Rattle.std.proofs.Common.{◌≡◌, ◌∷◌, [], ℕ, List, Bool, true, false, Option, Some, None, Result, Ok as Right, Err, refl, sym, ◌∙◌}
use Rattle.std.specs.Prelude.{bytes_eq}
use Rattle.std.specs.List.{list_any}
use Rattle.std.proofs.lemmas.Bool.{false≢true}
use Rattle.zn_base.specs.Names.{Name}
use Rattle.zn_base.specs.declared.state.ZoneState.{ZoneState}
use Rattle.brand_hooks.specs.Brands.{Tabled}
use Rattle.commit_journal.specs.declared.records.Record as records
use Rattle.config_terms.specs.Fields.{path_text}
use Rattle.config_terms.specs.declared.fault.ConfigFault.{ConfigFault}
use Rattle.zone_config.specs.declared.terms.Contents.{Contents}
use Rattle.zone_pools.specs.Asked.{A_zone, Asked}
use Rattle.zone_pools.specs.Decisions.{Ask, Just, asked_of}
use Rattle.zoneadmd_steps.specs.Configs.{with_zonepath}
use Rattle.zoneadmd_steps.specs.Desks.{Desk, Fails, Goes, Job, Stage}
use Rattle.zoneadmd_steps.specs.Turns.{A_claim_left, A_mount, A_step, Next, Nothing_left, Seen, Turn_decision, Turned, local_turn, new_path, next, next_request, or_shared, over, record_config, record_moved, record_state, shared_next, shared_stage, shared_step, shared_turn, turn}
use Rattle.zoneadmd_steps.specs.declared.requests.Request.{Request}
use Rattle.zoneadmd_steps.specs.declared.requests.Request.TheVariants as request
use Rattle.zoneadmd_steps.specs.declared.requests.Step.{Step}
use Rattle.zoneadmd_steps.specs.declared.requests.Step.TheVariants.{Moved, Record as Record_step}
use Rattle.zone_cases.specs.Calls.{called}
use Rattle.zone_cases.specs.Session.Commits.{Typist, keeps_path, records as recorded}
use Rattle.zone_cases.specs.Session.Lines.{line_of}
use Rattle.zone_cases.specs.State.Decisions.{Decision, effects, turned}
use Rattle.zone_cases.specs.State.Worlds.{View, seen_of}
use Rattle.zone_cases.specs.declared.events.Event.{Event}
use Rattle.zone_cases.specs.declared.events.Event.TheVariants.{Process as Call_of, Restart, Session, System, Turn as Turn_of}
use Rattle.zone_machine.proofs.Asking.{of-called, of-typed}
use Rattle.zone_machine.specs.Machine.{decide}

abbrev pub is_zone : Asked → Bool
is_zone A_zone = true
is_zone a = false

-- turns
abbrev Makes_none : Turn_decision → Type 0
Makes_none d = list_any is_zone (asked_of d) ≡ false

none_state : (d : Desk) (j : Job) (rest : List Step) (s : ZoneState) (o : Option records.Record) → Makes_none (record_state d j rest s o)
none_state d j rest s None = refl
none_state d j rest s (Some row) = refl

none_config : (d : Desk) (j : Job) (rest : List Step) (path : List ℕ) (row : records.Record) (r : Result Contents ConfigFault) → Makes_none (record_config d j rest path row r)
none_config d j rest path row (Err fault) = refl
none_config d j rest path row (Right config) = at_own (bytes_eq path (path_text row.config.zonepath)) refl
  where
    at_own : (b : Bool) → bytes_eq path (path_text row.config.zonepath) ≡ b → Makes_none (record_config d j rest path row (Right config))
    at_own true e = simp e refl
    at_own false e = simp e refl

none_moved : (d : Desk) (j : Job) (rest : List Step) (path : List ℕ) (o : Option records.Record) → Makes_none (record_moved d j rest path o)
none_moved d j rest path None = refl
none_moved d j rest path (Some row) = none_config d j rest path row (with_zonepath path row.config)

none_step : (v : Seen) (j : Job) (rest : List Step) (s : Step) → Makes_none (shared_step v j rest s)
none_step v j rest (Record_step s) = none_state v.desk j rest s v.stored
none_step v j rest Moved = none_moved v.desk j rest (new_path j.request) v.stored
none_step v j rest _ = refl

none_over : (brands : List Tabled) (d : Desk) (j : Job) (stored : Option records.Record) (r : Request) → Makes_none (over brands d j stored r)
none_over brands d j (Some row) (request.Reboot args) = refl
none_over brands d j stored r = refl

none_next : (v : Seen) (j : Job) (n : Next) → Makes_none (shared_next v j n)
none_next v j Nothing_left = none_over v.brands v.desk j v.stored j.request
none_next v j (A_step s rest) = none_step v j rest s
none_next v j (A_mount m left) = refl
none_next v j (A_claim_left c left) = refl

none_stage : (v : Seen) (j : Job) (s : Stage) → Makes_none (shared_stage v j s)
none_stage v j (Goes left) = none_next v j (next v.objects left)
none_stage v j (Fails outcome []) = refl
none_stage v j (Fails outcome (s ∷ rest)) = refl

none_request : (brands : List Tabled) (d : Desk) (waiting : List (ℕ × Request)) (stored : Option records.Record) → Makes_none (next_request brands d waiting stored)
none_request brands d (r ∷ rs) (Some row) = refl
none_request brands d rs stored = refl

none_shared : (v : Seen) (o : Option Job) → Makes_none (shared_turn v o)
none_shared v None = none_request v.brands v.desk v.desk.waiting v.stored
none_shared v (Some j) = none_stage v j j.stage

none_or : (shared : Turn_decision) (local : Option Turned) → Makes_none shared → Makes_none (or_shared shared local)
none_or shared None h = h
none_or shared (Some t) h = refl

none_turn : (v : Seen) → Makes_none (turn v)
unfolding turn
none_turn v = none_or (shared_turn v v.desk.job) (local_turn v.brands v.objects v.desk) (none_shared v v.desk.job)

-- a decision asks for a new zone's place only where none is stored
abbrev Asks_new : Option records.Record → Decision → Type 0
Asks_new stored d = list_any is_zone (asked_of d) ≡ true → stored ≡ None

new_turned : (stored : Option records.Record) (d : Turn_decision) → Makes_none d → Asks_new stored (effects turned d)
new_turned stored (Just t) none any = absurd (false≢true any)
new_turned stored (Ask c asked denied given) none any = absurd (false≢true (sym none ∙ any))

new_recorded : (z : Name) (stored : Option records.Record) (config : Contents) (told : List (List ℕ)) (t : Typist) → Asks_new stored (recorded z stored config told t)
new_recorded z None config told t any = refl
new_recorded z (Some row) config told t any = at_path (keeps_path row config) refl
  where
    at_path : (b : Bool) → keeps_path row config ≡ b → ◌≡◌ {A = Option records.Record} (Some row) None
    at_path true e = absurd (false≢true (simp e at any))
    at_path false e = absurd (false≢true (simp e at any))

pub asks-new : (v : View) (e : Event) → list_any is_zone (asked_of (decide v e)) ≡ true → v.world.stored ≡ None
unfolding decide called
asks-new v (Session n text) = of-typed v (Asks_new v.world.stored) (λ e any. absurd (false≢true any)) (new_recorded v.zone v.world.stored) (λ row told t is any. absurd (false≢true any)) (λ p denied given any. absurd (false≢true any)) (v.world.sessions n) (line_of text)
asks-new v (Call_of z pid c) = of-called v (Asks_new v.world.stored) (λ e any. absurd (false≢true any)) (λ p denied given any. absurd (false≢true any)) pid (v.process pid) c
asks-new v (System what) = λ any. absurd (false≢true any)
asks-new v Restart = λ any. absurd (false≢true any)
asks-new v (Turn_of z) = new_turned v.world.stored (turn (seen_of v.world)) (none_turn (seen_of v.world))
