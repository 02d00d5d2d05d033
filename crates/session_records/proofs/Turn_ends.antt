-- Which ticket a turn of a zone's daemon ends: the one that it tells.
use Rattle.std.proofs.Common.{◌≡◌, ◌&&◌, ◌++◌, ◌∷◌, [], ℕ, List, Bool, Option, Some, None, true, false, ap, map, nat_eq, refl, sym, subst, ◌∙◌}
use Rattle.std.specs.Prelude.{Result, Ok as Right, Err, bytes_eq, if◌then◌else◌}
use Rattle.std.proofs.lemmas.Bool.{and_from, and_parts, eq-eqb, eqb-true, false≢true, false_from_ne_true}
use Rattle.brand_hooks.specs.Brands.{Tabled}
use Rattle.commit_journal.specs.declared.records.Record.{Record}
use Rattle.config_terms.specs.declared.fault.ConfigFault.{ConfigFault}
use Rattle.zn_base.specs.Names.{Name}
use Rattle.zn_base.specs.declared.state.ZoneState.{ZoneState}
use Rattle.zone_config.specs.declared.terms.Contents.{Contents}
use Rattle.zone_pools.proofs.Owned_laws.{same_self, same_true}
use Rattle.zone_pools.specs.Decisions as decisions
use Rattle.zone_pools.specs.declared.grant.Grant.{Grant}
use Rattle.zoneadmd_steps.proofs.Of_turns.{stays-turn}
use Rattle.zoneadmd_steps.specs.Arrivals.{Arrival}
use Rattle.zoneadmd_steps.specs.Configs.{with_zonepath}
use Rattle.zoneadmd_steps.specs.Desks.{Desk, Fails, Goes, Job, Stage, state_now}
use Rattle.zoneadmd_steps.specs.Objects.{Object_edit}
use Rattle.zoneadmd_steps.specs.Plans.{kind_of, refusal}
use Rattle.zoneadmd_steps.specs.Turns.{A_claim_left, A_mount, A_step, Next, Nothing_left, Seen, Turned, begin, local_turn, new_path, next, next_request, or_shared, over, record_config, record_moved, record_state, shared_next, shared_stage, shared_step, shared_turn, started, turn}
use Rattle.zoneadmd_steps.specs.declared.requests.Outcome.{Outcome}
use Rattle.zoneadmd_steps.specs.declared.requests.Outcome.TheVariants.{Done}
use Rattle.zoneadmd_steps.specs.declared.requests.Request.{Request}
use Rattle.zoneadmd_steps.specs.declared.requests.Request.TheVariants as request
use Rattle.zoneadmd_steps.specs.declared.requests.Step.{Step}
use Rattle.zoneadmd_steps.specs.declared.requests.Step.TheVariants.{Record as Record_step, Moved, Source, Zid, Claimed, Init}
use Rattle.zoneadmd_steps.specs.declared.requests.TurnReply.{TurnReply}
use Rattle.zoneadmd_steps.specs.declared.requests.TurnReply.TheVariants.{Finished}
use Rattle.zone_cases.specs.State.{At, Awaiting, State}
use Rattle.zone_cases.specs.State.Decisions.{after_came, sweeps, ticket_ended}
use Rattle.zone_cases.specs.State.Edits.{Of_objects, Set_desk, edit, edits, session_of, swept}
use Rattle.zone_cases.specs.State.Worlds.{seen_of, world}
use Rattle.zone_cases.specs.declared.events.Event.TheVariants.{Turn}
use Rattle.zone_machine.proofs.Turned_laws.{In, in-act, one-turn, turn_act}
use Rattle.zone_machine.specs.Code.Works.{turned_act}
use Rattle.zone_machine.specs.Machine.{Answered, one}
use Rattle.session_records.proofs.Typed_lines.{waits-came, waits-edit}
use Rattle.session_records.specs.Records.{ends_turn}

-- a ticket ends by a turn that tells so
abbrev TellsEnd : Option ℕ → TurnReply → Type 0
TellsEnd None reply = Unit {0}
TellsEnd (Some t) reply = (outcome : Outcome) × (reply ≡ Finished t outcome)

abbrev Tells : Option Arrival → Turned → Type 0
Tells c t = TellsEnd t.ended t.reply

tells-begin : (brands : List Tabled) (d : Desk) (t : ℕ) (r : Request) (row : Record) → Tells None (begin brands d t r row)
tells-begin brands d t r row = at_outcome (refusal brands (kind_of r) (state_now row d) row.config)
  where
    at_outcome : (outcome : Option Outcome) → Tells None (started brands d t r (state_now row d) row outcome)
    at_outcome None = tt
    at_outcome (Some outcome) = (outcome, refl)

tells-request : (brands : List Tabled) (d : Desk) (waiting : List (ℕ × Request)) (stored : Option Record) → In Tells (next_request brands d waiting stored)
tells-request brands d [] stored = tt
tells-request brands d (r ∷ rs) None = tt
tells-request brands d (r ∷ rs) (Some row) = tells-begin brands (record d { waiting = rs }) r.0 r.1 row

tells-over : (brands : List Tabled) (d : Desk) (j : Job) (stored : Option Record) (r : Request) → In Tells (over brands d j stored r)
tells-over brands d j None r = (Done, refl)
tells-over brands d j (Some row) (request.Reboot args) = tells-begin brands d j.ticket (request.Boot args) row
tells-over brands d j (Some row) _ = (Done, refl)

tells-state : (d : Desk) (j : Job) (rest : List Step) (s : ZoneState) (stored : Option Record) → In Tells (record_state d j rest s stored)
tells-state d j rest s None = tt
tells-state d j rest s (Some row) = (λ pool. tt, λ n. tt)

tells-config : (d : Desk) (j : Job) (rest : List Step) (path : List ℕ) (row : Record) (r : Result Contents ConfigFault) → In Tells (record_config d j rest path row r)
tells-config d j rest path row (Err fault) = tt
tells-config d j rest path row (Right config) = (λ pool. tt, λ n. tt)

tells-moved : (d : Desk) (j : Job) (rest : List Step) (path : List ℕ) (stored : Option Record) → In Tells (record_moved d j rest path stored)
tells-moved d j rest path None = tt
tells-moved d j rest path (Some row) = tells-config d j rest path row (with_zonepath path row.config)

tells-step : (v : Seen) (j : Job) (rest : List Step) (s : Step) → In Tells (shared_step v j rest s)
tells-step v j rest (Record_step s) = tells-state v.desk j rest s v.stored
tells-step v j rest Moved = tells-moved v.desk j rest (new_path j.request) v.stored
tells-step v j rest (Source z) = (λ pool. tt, λ n. tt)
tells-step v j rest (Zid id) = (λ pool. tt, λ n. tt)
tells-step v j rest (Claimed c) = (λ pool. tt, λ n. tt)
tells-step v j rest (Init pid) = (λ pool. tt, λ n. tt)
tells-step v j rest _ = tt

tells-next : (v : Seen) (j : Job) (n : Next) → In Tells (shared_next v j n)
tells-next v j Nothing_left = tells-over v.brands v.desk j v.stored j.request
tells-next v j (A_step s rest) = tells-step v j rest s
tells-next v j (A_mount m left) = tt
tells-next v j (A_claim_left c left) = tt

tells-stage : (v : Seen) (j : Job) (stage : Stage) → In Tells (shared_stage v j stage)
tells-stage v j (Goes left) = tells-next v j (next v.objects left)
tells-stage v j (Fails outcome []) = (outcome, refl)
tells-stage v j (Fails outcome (s ∷ rest)) = tt

tells-shared : (v : Seen) (job : Option Job) → In Tells (shared_turn v job)
tells-shared v None = tells-request v.brands v.desk v.desk.waiting v.stored
tells-shared v (Some j) = tells-stage v j j.stage

tells-turn : (v : Seen) → In Tells (turn v)
unfolding turn
tells-turn v = at_local (local_turn v.brands v.objects v.desk) refl
  where
    at_local : (o : Option Turned) → local_turn v.brands v.objects v.desk ≡ o → In Tells (or_shared (shared_turn v v.desk.job) o)
    at_local None is = tells-shared v v.desk.job
    at_local (Some t) is = subst (λ ended. TellsEnd ended t.reply) (sym (stays-turn v.brands v.objects v.desk t is).ended) tt

-- it is not the ticket u of y that a turn of z ends
abbrev Spares : (z y : Name) (u : ℕ) → Option ℕ → Type 0
Spares z y u None = Unit {0}
Spares z y u (Some t) = (bytes_eq z y && nat_eq t u) ≡ false

spares : (z y : Name) (u : ℕ) (ended : Option ℕ) (reply : TurnReply) → TellsEnd ended reply → (bytes_eq y z && ends_turn u reply) ≡ false → Spares z y u ended
spares z y u None reply tells other = tt
spares z y u (Some t) reply tells other = false_from_ne_true (bytes_eq z y && nat_eq t u) (λ both.
    let parts = and_parts (bytes_eq z y) (nat_eq t u) both in
    let zone : bytes_eq y z ≡ true = ap (bytes_eq y) (same_true z y parts.0) ∙ same_self y in
    let ticket : ends_turn u reply ≡ true = ap (ends_turn u) tells.1 ∙ eq-eqb u t (sym (eqb-true t u parts.1)) in
    false≢true (sym other ∙ and_from _ _ zone ticket))

module _ (z y : Name) (u n : ℕ) where
  waits-sweeps : (ended : Option ℕ) → Spares z y u ended → (S : State) → S.sessions n ≡ At y (Awaiting u) → (edits z None (sweeps ended) S).sessions n ≡ At y (Awaiting u)
  unfolding edit
  waits-sweeps None spared S is = is
  waits-sweeps (Some t) spared S is = ap (swept z (ticket_ended t)) is ∙ at_tests (bytes_eq z y) (nat_eq t u) spared
    where
      at_tests : (b c : Bool) → (b && c) ≡ false → (if b then session_of y (if c then None else Some (Awaiting u)) else At y (Awaiting u)) ≡ At y (Awaiting u)
      at_tests false c h = refl
      at_tests true false h = refl
      at_tests true true h = absurd (false≢true (sym h))

  waits-turned : (es : List Object_edit) (d : Desk) (ended : Option ℕ) → Spares z y u ended → (S : State) → S.sessions n ≡ At y (Awaiting u)
      → (edits z None (map Of_objects es ++ Set_desk d ∷ sweeps ended) S).sessions n ≡ At y (Awaiting u)
  waits-turned [] d ended spared S is = waits-sweeps ended spared (edit z None (Set_desk d) S) (waits-edit z y u n None tt (Set_desk d) refl S is)
  waits-turned (e ∷ es) d ended spared S is = waits-turned es d ended spared (edit z None (Of_objects e) S) (waits-edit z y u n None tt (Of_objects e) refl S is)

  waits-act : (a : decisions.Act Arrival Turned) → Tells a.came a.effect → (bytes_eq y z && ends_turn u a.effect.reply) ≡ false → (S : State) → S.sessions n ≡ At y (Awaiting u)
      → (edits z None (turned_act a).effect.edits (after_came z a.came S)).sessions n ≡ At y (Awaiting u)
  waits-act a tells other S is = waits-turned a.effect.objects a.effect.desk a.effect.ended (spares z y u a.effect.ended a.effect.reply tells other) (after_came z a.came S) (waits-came z y u n a.came S is)

-- a turn leaves a session waiting that it doesn't answer
pub waits-turn : (S : State) (z : Name) (g : Grant) (y : Name) (u n : ℕ) → (bytes_eq y z && ends_turn u (turn_act (world z S) g).effect.reply) ≡ false → S.sessions n ≡ At y (Awaiting u)
    → (one S (Turn z) g).state.sessions n ≡ At y (Awaiting u)
waits-turn S z g y u n other is =
    let a = turn_act (world z S) g in
    ap (λ (r : Answered). r.state.sessions n) (one-turn z S g) ∙ waits-act z y u n a (in-act Tells (turn (seen_of (world z S))) g (tells-turn (seen_of (world z S)))) other S is
