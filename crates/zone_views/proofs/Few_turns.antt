-- A zone's daemon has few turns left: eight requests wait at most, and the steps of the one under way are those of a plan at most.
use Rattle.std.proofs.Common.{◌≡◌, ◌≤◌, ◌<◌, ◌+◌, ◌||◌, ◌∷◌, [], ℕ, suc, List, Bool, Option, Some, None, Result, Ok as Right, Err, true, false, arith, length, length-append, refl}
use Rattle.std.specs.Prelude.{IfSome, nat_le, unwrap_or, if◌then◌else◌}
use Rattle.std.proofs.lemmas.Bool.Decides.{nat_tests}
use Rattle.zn_base.specs.Names.{Name}
use Rattle.zn_base.specs.declared.state.ZoneState.{ZoneState}
use Rattle.zn_base.specs.declared.state.ZoneState.TheVariants.{Ready as Is_ready}
use Rattle.brand_hooks.specs.Brands.{Tabled, answer_of}
use Rattle.brand_hooks.specs.declared.table.HookAnswer.{HookAnswer}
use Rattle.brand_hooks.specs.declared.table.HookAnswer.TheVariants.{Proceed, Refuse}
use Rattle.commit_journal.specs.declared.records.Commit.{Commit}
use Rattle.commit_journal.specs.declared.records.Record.{Record}
use Rattle.config_terms.specs.declared.fault.ConfigFault.{ConfigFault}
use Rattle.datalink_table.specs.declared.claims.Claim.{Claim}
use Rattle.loopback_mounts.specs.Mounts.{is_at, is_held, mount_at}
use Rattle.zone_config.specs.declared.terms.Contents.{Contents}
use Rattle.zone_pools.specs.Decisions.{Just}
use Rattle.zone_pools.specs.Owned_lists.{Go}
use Rattle.zone_pools.specs.declared.grant.Grant.{Grant}
use Rattle.zoneadmd_laws.proofs.Bounds.{after_bound, most_bound, plan_length}
use Rattle.zoneadmd_laws.proofs.Verified.{dirs_few}
use Rattle.zoneadmd_laws.specs.Turns_left.{IsSmall, job_turns, stage_turns, turns_after, turns_left}
use Rattle.zoneadmd_steps.specs.Arrivals.{Arrival}
use Rattle.zoneadmd_steps.specs.Configs.{root_dir, with_zonepath}
use Rattle.zoneadmd_steps.specs.Desks.{Desk, Fails, Goes as Goes_on, Job, Stage, is_full, with_request}
use Rattle.zoneadmd_steps.specs.Objects.{Objects, Of_mounts}
use Rattle.zoneadmd_steps.specs.Plans.{kind_of, made_after, plan, refusal}
use Rattle.zoneadmd_steps.specs.Turns.{A_claim_left, A_mount, A_step, Next, Nothing_left, Seen, Turn_decision, Turned, begin, failed, hooked, local_job, local_next, local_stage, local_step, local_turn, local_undo, new_path, next, next_request, or_shared, over, record_config, record_moved, record_state, shared_next, shared_stage, shared_step, shared_turn, started, stuck, turn, undo_edits, undo_mount, undone, with_job, with_step}
use Rattle.zoneadmd_steps.specs.declared.requests.Outcome.{Outcome}
use Rattle.zoneadmd_steps.specs.declared.requests.Request.{Request}
use Rattle.zoneadmd_steps.specs.declared.requests.Request.TheVariants as request
use Rattle.zoneadmd_steps.specs.declared.requests.Step.{Step}
use Rattle.zoneadmd_steps.specs.declared.requests.Step.TheVariants.{Hook, Record as Record_step, Moved, Source, Zid, Limits, Devices, Root, Mounted, Claimed, State, Init, Unmount, Release}
use Rattle.zone_machine.proofs.Turned_laws.{In, in-act, turn_act}
use Rattle.zone_machine.specs.Code.Works.{turned_act}
use Rattle.zone_machine.specs.Machine.{decide, opening, session_number}
use Rattle.zone_machine.specs.Machine.Histories.{after, is_history}
use Rattle.zone_machine.specs.Machine.Pools.{fits}
use Rattle.zone_cases.specs.State.{stored}
use Rattle.zone_cases.specs.State.Decisions.{act_of, acts_world, after_came_world}
use Rattle.zone_cases.specs.State.Edits.{Edit, edits_world}
use Rattle.zone_cases.specs.State.Worlds.{World, objects_of, seen_of, view_of, world}
use Rattle.zone_cases.specs.declared.events.Entry.{Entry}
use Rattle.zone_cases.specs.declared.events.Event.{Event}
use Rattle.zone_views.proofs.Deciding.{Called, Comes, Does, Drops, Enters, Forks, Goes, Renames, of_any, of_does, of_turned}
use Rattle.zone_views.proofs.Declared_few.{claims-bounded}
use Rattle.zone_views.proofs.Keeping.{kept-of}
use Rattle.zone_views.proofs.Mounts_few.{few-after}
use Rattle.zone_views.proofs.Nexts.{Holds_next, holds-next}
use Rattle.zone_views.proofs.Settled.{Settled, settled-declared, settled-event, settled-opening, settled-restarted}
use Rattle.zone_views.proofs.Small_zones.{claims-asked, stays-small}
use Rattle.zone_views.specs.Storable.{IsRight}

-- the steps of a request under way: those that are left, and those that may have to be undone
abbrev AreFew : (made : List Step) → Stage → Type 0
AreFew made (Goes_on left) = length made + length left ≤ 400
AreFew made (Fails outcome undo) = length undo ≤ 400

abbrev JobFew : Option Job → Type 0
JobFew None = Unit {0}
JobFew (Some j) = AreFew j.done.made j.stage

record IsFew (d : Desk) : Type 0 where
  waiting : length d.waiting ≤ 8
  job : JobFew d.job

-- a plan is not long
plan-few : (r : Request) (s : ZoneState) (row : Record) → IsRight row → length (plan r s row.config) ≤ 400
plan-few r s row h =
    let most = plan_length r s row.config in
    let dirs = dirs_few row.config h.config.resources in
    let asked = claims-asked row.config h.config.resources in
    omega (arith, most, dirs, asked)

-- a step that is done may have to be undone
made-more : (s : Step) (made : List Step) → length (made_after s made) ≤ suc (length made)
made-more (Zid n) made = omega arith
made-more Limits made = omega arith
made-more (Devices n) made = omega arith
made-more Root made = omega arith
made-more (Mounted dir) made = omega arith
made-more (Claimed c) made = omega arith
made-more (State Is_ready) made = omega arith
made-more (State s) made = omega arith
made-more _ made = omega arith

-- a request is put where there is room
put-few : (d : Desk) (r : Request) → is_full d ≡ false → IsFew d → IsFew (with_request d r)
put-few d r room h = record { waiting = let split = length-append d.waiting ((d.last + 1, r) ∷ []) in omega (arith, split, below); job = h.job }
  where
    at_tests : (a b : Bool) → nat_le 8 (length d.waiting) ≡ a → (a || b) ≡ false → length d.waiting < 8
    at_tests true b e f = absurd (cc)
    at_tests false b e f = grind (arith, nat_tests)

    below : length d.waiting < 8
    below = at_tests (nat_le 8 (length d.waiting)) _ refl room

-- a turn
module _ (o : Objects) (declared : List (List ℕ)) (brands : List Tabled) (d : Desk) (h : IsFew d) where
  abbrev Few : Option Arrival → Turned → Type 0
  Few c t = IsFew t.desk

  few_if : (b : Bool) (t u : Turned) → Few None t → Few None u → Few None (if b then t else u)
  few_if true t u x y = x
  few_if false t u x y = y

  module _ (stored : Option Record) (right : IfSome stored IsRight) where
    abbrev v : Seen
    v = record { desk = d; objects = o; stored = stored; declared = declared; brands = brands }

    abbrev FewBoth : Turn_decision → Option Turned → Type 0
    FewBoth shared local = In Few (or_shared shared local)

    few_begin : (row : Record) (e : Desk) (t : ℕ) (r : Request) → IsRight row → length e.waiting ≤ 8 → Few None (begin brands e t r row)
    few_begin row e t r is few = at_outcome (refusal brands (kind_of r) (unwrap_or e.active row.state) row.config)
      where
        at_outcome : (outcome : Option Outcome) → Few None (started brands e t r (unwrap_or e.active row.state) row outcome)
        at_outcome None = record { waiting = few; job = let short = plan-few r (unwrap_or e.active row.state) row is in omega (arith, short) }
        at_outcome (Some outcome) = record { waiting = few; job = tt }

    module _ (j : Job) where
      abbrev Room : List Step → Type 0
      Room left = length j.done.made + length left ≤ 400

      few_failed : (left : List Step) (outcome : Outcome) → Room left → Few None (failed d j outcome)
      few_failed left outcome room = record { waiting = h.waiting; job = omega (arith, room) }

      few_done : (s : Step) (rest : List Step) (shown : Step) → Room (s ∷ rest) → IsFew (with_job d (record j { done = with_step shown j.done; stage = Goes_on rest }))
      few_done s rest shown room = record { waiting = h.waiting; job = let more = made-more shown j.done.made in omega (arith, more, room) }

      few_config : (row : Record) (rest : List Step) (path : List ℕ) (r : Result Contents ConfigFault) → Room (Moved ∷ rest) → In Few (record_config d j rest path row r)
      few_config row rest path (Err fault) room = few_failed (Moved ∷ rest) _ room
      few_config row rest path (Right config) room = (λ pool. few_failed (Moved ∷ rest) _ room, λ n. few_done Moved rest Moved room)

      few_moved : (row : Option Record) (rest : List Step) → Room (Moved ∷ rest) → In Few (record_moved d j rest (new_path j.request) row)
      few_moved None rest room = h
      few_moved (Some row) rest room = few_config row rest (new_path j.request) (with_zonepath (new_path j.request) row.config) room

      few_record : (row : Option Record) (rest : List Step) (s : ZoneState) → Room (Record_step s ∷ rest) → In Few (record_state d j rest s row)
      few_record None rest s room = h
      few_record (Some row) rest s room = (λ pool. few_failed (Record_step s ∷ rest) _ room, λ n. few_done (Record_step s) rest (Record_step s) room)

      few_step : (rest : List Step) (s : Step) → Room (s ∷ rest) → FewBoth (shared_step v j rest s) (local_step brands o d j rest s)
      few_step rest (Hook change) room = at_answer (answer_of brands j.brand change)
        where
          at_answer : (answer : HookAnswer) → Few None (hooked d j rest change answer)
          at_answer Proceed = few_done (Hook change) rest (Hook change) room
          at_answer (Refuse code) = few_failed (Hook change ∷ rest) _ room
      few_step rest (Record_step s) room = few_record stored rest s room
      few_step rest Moved room = few_moved stored rest room
      few_step rest (Source z) room = (λ pool. few_failed (Source z ∷ rest) _ room, λ n. few_done (Source z) rest (Source z) room)
      few_step rest (Zid id) room = (λ pool. few_failed (Zid id ∷ rest) _ room, λ n. few_done (Zid id) rest (Zid (Some n)) room)
      few_step rest (Claimed c) room = (λ pool. few_failed (Claimed c ∷ rest) _ room, λ n. few_done (Claimed c) rest (Claimed c) room)
      few_step rest (Init pid) room = (λ pool. few_failed (Init pid ∷ rest) _ room, λ n. few_done (Init pid) rest (Init (Some n)) room)
      few_step rest (State s) room = record { waiting = h.waiting; job = let more = made-more (State s) j.done.made in omega (arith, more, room) }
      few_step rest _ room = record { waiting = h.waiting; job = omega (arith, room) }

      few_over : (row : Option Record) (r : Request) → IfSome row IsRight → In Few (over brands d j row r)
      few_over (Some row) (request.Reboot args) is = few_begin row d j.ticket (request.Boot args) is h.waiting
      few_over (Some row) _ is = record { waiting = h.waiting; job = tt }
      few_over None r is = record { waiting = h.waiting; job = tt }

      few_unmounted : (dir : Option (List ℕ)) (rest : List Step) → Room (Unmount dir ∷ rest) → Room rest
      few_unmounted dir rest room = omega (arith, room)

      few_released : (c : Option Claim) (rest : List Step) → Room (Release c ∷ rest) → Room rest
      few_released c rest room = omega (arith, room)

      few_next : (n : Next) → Holds_next Room few_unmounted few_released o n → FewBoth (shared_next v j n) (local_next brands o d j n)
      few_next Nothing_left room = few_over stored j.request right
      few_next (A_step s rest) room = few_step rest s room
      few_next (A_mount m left) room = few_if m.held (stuck d) _ h (record { waiting = h.waiting; job = room })
      few_next (A_claim_left c left) room = record { waiting = h.waiting; job = room }

      few_undone : (outcome : Outcome) (s : Step) (rest : List Step) → length (s ∷ rest) ≤ 400 → IsFew (with_job d (record j { stage = Fails outcome rest }))
      few_undone outcome s rest room = record { waiting = h.waiting; job = omega (arith, room) }

      few_undo_mount : (outcome : Outcome) (s : Step) (rest : List Step) (dir : List ℕ) → length (s ∷ rest) ≤ 400 → Few None (undo_mount o d j outcome rest dir s)
      few_undo_mount outcome s rest dir room = few_if (is_held (mount_at dir o.mounts)) (stuck d) (undone d j outcome rest (Of_mounts (Go (is_at dir)) ∷ []) s) h (few_undone outcome s rest room)

      few_undo : (outcome : Outcome) (rest : List Step) (s : Step) → length (s ∷ rest) ≤ 400 → FewBoth (Just (undone d j outcome rest (undo_edits s) s)) (local_undo o d j outcome rest s)
      few_undo outcome rest Root room = few_undo_mount outcome Root rest root_dir room
      few_undo outcome rest (Mounted dir) room = few_undo_mount outcome (Mounted dir) rest dir room
      few_undo outcome rest s room = few_undone outcome s rest room

      few_stage : (stage : Stage) → AreFew j.done.made stage → FewBoth (shared_stage v j stage) (local_stage brands o d j stage)
      few_stage (Goes_on left) room = few_next (next o left) (holds-next Room few_unmounted few_released o left room)
      few_stage (Fails outcome []) room = record { waiting = h.waiting; job = tt }
      few_stage (Fails outcome (s ∷ rest)) room = few_undo outcome rest s room

    few_request : (waiting : List (ℕ × Request)) (row : Option Record) → length waiting ≤ 8 → IfSome row IsRight → In Few (next_request brands d waiting row)
    few_request [] row few is = h
    few_request (r ∷ rs) None few is = h
    few_request (r ∷ rs) (Some row) few is = few_begin row (record d { waiting = rs }) r.0 r.1 is (omega (arith, few))

    few_job : (job : Option Job) → JobFew job → FewBoth (shared_turn v job) (local_job brands o d job)
    few_job None room = few_request d.waiting stored h.waiting right
    few_job (Some j) room = few_stage j j.stage room

    few_turn : In Few (turn v)
    unfolding turn local_turn
    few_turn = few_job d.job h.job

-- an event of the zone
turned-few : (w : World) (g : Grant) → IfSome w.stored IsRight → IsFew w.desk → IsFew (acts_world None (turned_act (turn_act w g)) w).desk
turned-few w g right h =
    of_turned (λ stored ms d. IsFew d) w g
    (in-act (Few (objects_of w) w.declared.devices w.brands w.desk h) (turn (seen_of w)) g (few_turn (objects_of w) w.declared.devices w.brands w.desk h w.stored right))

called-few : (w : World) (n : Option ℕ) (c : Option Arrival) (es : List Edit) → Called w n c es → IsFew w.desk → IsFew (edits_world n es (after_came_world c w)).desk
called-few w _ _ _ (Forks n parent pid p name is) h = h
called-few w _ _ _ (Enters k pid name escape running idle) h = h
called-few w _ _ _ (Comes k pid name running) h = h
called-few w _ _ _ (Goes n pid) h = h
called-few w _ _ _ (Renames n pid name) h = h
called-few w _ _ _ (Drops n pid number) h = h

does-few : (z : Name) (w : World) → IsFew w.desk → (n : Option ℕ) (c : Option Arrival) (es : List Edit) → Does z w n c es → IsFew (edits_world n es (after_came_world c w)).desk
does-few z w h n c es does = of_does (λ v. IsFew v.desk) z w (λ sessions console. h) (λ stored config m sessions console is. h) (λ row sessions console is e f. h) (λ r sessions room. put-few w.desk r room h) (λ n c es called. called-few w n c es called h) (λ e mounted. h) n c es does

few-event : (z : Name) (w : World) (e : Event) (g : Grant) → Settled w → IsFew w.desk → IsFew (acts_world (session_number e) (act_of (decide (view_of z w) e) g) w).desk
few-event z w e g s h = of_any z w (λ v. IsFew v.desk) (λ v h n c es does. does-few z v h n c es does) h g (turned-few w g s.right.stored h) e

desks-few : (z : Name) (brands : List Tabled) (commits : List Commit) (h : List Entry) → IfSome (stored z commits) IsRight → IsFew (world z (after (opening brands commits) h)).desk
desks-few z brands commits h first = (kept-of (λ w. Settled w × IsFew w.desk)
    (λ z w e g k. (settled-event z w e g k.0, few-event z w e g k.0 k.1))
    (λ w d k. (settled-declared w d k.0, k.1)) (λ w k. (settled-restarted w k.0, record { waiting = omega arith; job = tt }))
    z (opening brands commits) h (settled-opening z brands commits first, record { waiting = omega arith; job = tt })).1

-- so many turns are left at most
module _ (w : Seen) (small : IsSmall w) (claims : length w.objects.claims ≤ 3072) (mounts : length w.objects.mounts ≤ 128) where
  goes-few : (r : Request) (row : Option Record) → w.stored ≡ row → (m k : ℕ) → m + k ≤ 40000 → turns_after row r m k ≤ 100000
  goes-few r None e m k h = omega arith
  goes-few r (Some row) e m k h = let s = small row e in after_bound row r m k (omega (arith, s)) h

  stage-few : (j : Job) (stage : Stage) → AreFew j.done.made stage → stage_turns w j stage < 2000000
  stage-few j (Goes_on left) few =
      let x = most_bound (turns_after w.stored j.request) 40000 100000 (goes-few j.request w.stored refl) left (length w.objects.mounts) (length w.objects.claims) (length j.done.made) (omega (arith, claims, mounts, few)) in
      omega (arith, x, claims, mounts, few)
  stage-few j (Fails outcome undo) few = omega (arith, few)

  job-few : (job : Option Job) → JobFew job → job_turns w job < 2000000
  job-few None few = omega arith
  job-few (Some j) few = stage-few j j.stage few

  left-few : IsFew w.desk → turns_left w < 10000000
  left-few h = let x = job-few w.desk.job h.job in let y = h.waiting in omega (arith, x, y)

pub turns-few : (brands : List Tabled) (commits : List Commit) (h : List Entry) (z : Name) → is_history fits (opening brands commits) h ≡ true → IfSome (stored z commits) IsRight
    → turns_left (seen_of (world z (after (opening brands commits) h))) < 10000000
turns-few brands commits h z is first =
    left-few (seen_of (world z (after (opening brands commits) h))) (stays-small brands commits h z is first) (claims-bounded brands commits h z is) (few-after z brands commits h) (desks-few z brands commits h first)
