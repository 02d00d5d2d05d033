-- A zone has 128 mounts at most: one more is made by a call or by a turn only where there are fewer.
use Rattle.std.proofs.Common.{◌≡◌, ◌≤◌, ◌<◌, ◌+◌, ◌∷◌, [], ℕ, List, Bool, Option, Some, None, Result, Ok as Right, Err, true, false, not, ap, arith, length, map, refl}
use Rattle.std.specs.Prelude.{is_ok, is_some, nat_lt, unwrap_or, if◌then◌else◌}
use Rattle.std.proofs.lemmas.Bool.{ltb-true}
use Rattle.std.proofs.lemmas.List.Sums.{count_by-le-length, length-filter}
use Rattle.zn_base.specs.Names.{Name}
use Rattle.zn_base.specs.declared.state.ZoneState.{ZoneState}
use Rattle.brand_hooks.specs.Brands.{Tabled, answer_of}
use Rattle.brand_hooks.specs.declared.table.HookAnswer.{HookAnswer}
use Rattle.brand_hooks.specs.declared.table.HookAnswer.TheVariants.{Proceed, Refuse}
use Rattle.commit_journal.specs.declared.records.Commit.{Commit}
use Rattle.commit_journal.specs.declared.records.Record.{Record}
use Rattle.config_terms.specs.declared.fault.ConfigFault.{ConfigFault}
use Rattle.kernel_objects.specs.Processes.{Process}
use Rattle.loopback_mounts.specs.Mounts.{at_dir, before, is_at, is_held, mount_answer, mount_at, with_hold}
use Rattle.loopback_mounts.specs.declared.limits.TheConstants.{MOUNTS_MAX}
use Rattle.loopback_mounts.specs.declared.mount.Mount.{Mount}
use Rattle.loopback_mounts.specs.declared.mount.MountEntry.{MountEntry}
use Rattle.zone_config.specs.declared.terms.Contents.{Contents}
use Rattle.zone_pools.specs.Decisions.{Just}
use Rattle.zone_pools.specs.Owned_lists.{Go, List_edit, Put, edited, put}
use Rattle.zone_pools.specs.declared.grant.Grant.{Grant}
use Rattle.zoneadmd_steps.specs.Arrivals.{Arrival}
use Rattle.zoneadmd_steps.specs.Configs.{root_dir, with_zonepath}
use Rattle.zoneadmd_steps.specs.Desks.{Desk, Fails, Goes as Goes_on, Job, Stage}
use Rattle.zoneadmd_steps.specs.Objects.{Objects, Of_mounts, mounts_after}
use Rattle.zoneadmd_steps.specs.Plans.{kind_of, refusal}
use Rattle.zoneadmd_steps.specs.Turns.{A_claim_left, A_mount, A_step, Next, Nothing_left, Seen, Turn_decision, Turned, advance, begin, hooked, local_job, local_next, local_stage, local_step, local_turn, local_undo, mounting, new_path, next, next_request, or_shared, over, record_config, record_moved, record_state, shared_next, shared_stage, shared_step, shared_turn, started, stuck, turn, undo_edits, undone}
use Rattle.zoneadmd_steps.specs.declared.requests.Outcome.{Outcome}
use Rattle.zoneadmd_steps.specs.declared.requests.Request.{Request}
use Rattle.zoneadmd_steps.specs.declared.requests.Request.TheVariants as request
use Rattle.zoneadmd_steps.specs.declared.requests.Step.{Step}
use Rattle.zoneadmd_steps.specs.declared.requests.Step.TheVariants.{Hook, Record as Record_step, Moved, Source, Zid, Root, Mounted, Claimed, Init}
use Rattle.zone_cases.specs.State.Decisions.{acts_world, after_came_world}
use Rattle.zone_cases.specs.State.Edits.{Edit, edits_world}
use Rattle.zone_cases.specs.State.Worlds.{World, objects_of, seen_of, world}
use Rattle.zone_cases.specs.declared.events.Entry.{Entry}
use Rattle.zone_machine.proofs.Turned_laws.{In, in-act, turn_act}
use Rattle.zone_machine.specs.Code.Works.{turned_act}
use Rattle.zone_machine.specs.Machine.{opening}
use Rattle.zone_machine.specs.Machine.Histories.{after}
use Rattle.zone_views.proofs.Deciding.{Called, Comes, Does, Drops, Enters, Forks, Goes, Holds, Mounted as Mounted_by, Mounts, Renames, Unmounts, of_any, of_does, of_turned}
use Rattle.zone_views.proofs.Keeping.{kept-after}

abbrev AreFew : List MountEntry → Type 0
AreFew ms = length ms ≤ 128

put-one : (p : MountEntry → Bool) (m : MountEntry) (ms : List MountEntry) → length (put p m ms) ≡ length ms + 1
put-one p m [] = refl
put-one p m (x ∷ ms) = at_test (p x) (put-one p m ms)
  where
    at_test : (b : Bool) → length (put p m ms) ≡ length ms + 1 → length (if b then x ∷ put p m ms else m ∷ x ∷ ms) ≡ length (x ∷ ms) + 1
    at_test true h = omega (arith, h)
    at_test false h = omega arith

fewer : (p : MountEntry → Bool) (ms : List MountEntry) → AreFew ms → AreFew (edited (Go p) ms)
fewer p ms h = let is = length-filter (λ x. not (p x)) ms in let le = count_by-le-length (λ x. not (p x)) ms in omega (arith, is, le, h)

same-length : (f : MountEntry → MountEntry) (ms : List MountEntry) → length (map f ms) ≡ length ms
same-length f [] = refl
same-length f (m ∷ ms) = let h = same-length f ms in omega (arith, h)

-- where a mount may be made there is room
has-room : (dir : List ℕ) (ms : List MountEntry) → is_ok (mount_answer dir ms) ≡ true → length ms < 128
has-room dir ms h = at_tests (is_some (mount_at dir ms)) (nat_lt (length ms) MOUNTS_MAX) refl refl
  where
    at_tests : (b r : Bool) → is_some (mount_at dir ms) ≡ b → nat_lt (length ms) MOUNTS_MAX ≡ r → length ms < 128
    at_tests false true e f = ltb-true (length ms) MOUNTS_MAX f
    at_tests true r e f = absurd (cc)
    at_tests false false e f = absurd (cc)

one-more : (m : Mount) (ms : List MountEntry) → is_ok (mount_answer m.dir ms) ≡ true → AreFew (edited (Put (before m.dir) (record { mount = m; held = false })) ms)
one-more m ms h = let room = has-room m.dir ms h in let more = put-one (before m.dir) (record { mount = m; held = false }) ms in omega (arith, room, more)

-- what a call of a process does to the mounts, or a hold
mounted-few : (ps : List Process) (ms : List MountEntry) (e : List_edit MountEntry) → Mounted_by ps ms e → AreFew ms → AreFew (edited e ms)
mounted-few ps ms _ (Mounts m some ok) h = one-more m ms (ap is_ok ok)
mounted-few ps ms _ (Unmounts dir some) h = fewer (is_at dir) ms h
mounted-few ps ms _ (Holds dir held) h = let same = same-length (at_dir dir (with_hold held)) ms in omega (arith, same, h)

-- a turn
module _ (o : Objects) (declared : List (List ℕ)) (brands : List Tabled) (d : Desk) (h : AreFew o.mounts) where
  abbrev Few : Option Arrival → Turned → Type 0
  Few c t = AreFew (mounts_after t.objects o.mounts)

  few_if : (b : Bool) (t u : Turned) → Few None t → Few None u → Few None (if b then t else u)
  few_if true t u x y = x
  few_if false t u x y = y

  few_mounting : (j : Job) (rest : List Step) (m : Mount) (shown : Step) → Few None (advance d j rest (mounting m o.mounts) shown)
  few_mounting j rest m shown = at_test (is_ok (mount_answer m.dir o.mounts)) refl
    where
      at_test : (b : Bool) → is_ok (mount_answer m.dir o.mounts) ≡ b → AreFew (mounts_after (if b then Of_mounts (Put (before m.dir) (record { mount = m; held = false })) ∷ [] else []) o.mounts)
      at_test true is = one-more m o.mounts is
      at_test false is = h

  module _ (stored : Option Record) where
    abbrev v : Seen
    v = record { desk = d; objects = o; stored = stored; declared = declared; brands = brands }

    abbrev FewBoth : Turn_decision → Option Turned → Type 0
    FewBoth shared local = In Few (or_shared shared local)

    few_begin : (row : Record) (e : Desk) (t : ℕ) (r : Request) → Few None (begin brands e t r row)
    few_begin row e t r = at_outcome (refusal brands (kind_of r) (unwrap_or e.active row.state) row.config)
      where
        at_outcome : (outcome : Option Outcome) → Few None (started brands e t r (unwrap_or e.active row.state) row outcome)
        at_outcome None = h
        at_outcome (Some outcome) = h

    module _ (j : Job) where
      few_config : (row : Record) (rest : List Step) (path : List ℕ) (r : Result Contents ConfigFault) → In Few (record_config d j rest path row r)
      few_config row rest path (Err fault) = h
      few_config row rest path (Right config) = (λ pool. h, λ n. h)

      few_moved : (row : Option Record) (rest : List Step) → In Few (record_moved d j rest (new_path j.request) row)
      few_moved None rest = h
      few_moved (Some row) rest = few_config row rest (new_path j.request) (with_zonepath (new_path j.request) row.config)

      few_record : (row : Option Record) (rest : List Step) (s : ZoneState) → In Few (record_state d j rest s row)
      few_record None rest s = h
      few_record (Some row) rest s = (λ pool. h, λ n. h)

      few_step : (rest : List Step) (s : Step) → FewBoth (shared_step v j rest s) (local_step brands o d j rest s)
      few_step rest (Hook change) = at_answer (answer_of brands j.brand change)
        where
          at_answer : (answer : HookAnswer) → Few None (hooked d j rest change answer)
          at_answer Proceed = h
          at_answer (Refuse code) = h
      few_step rest (Record_step s) = few_record stored rest s
      few_step rest Moved = few_moved stored rest
      few_step rest (Source z) = (λ pool. h, λ n. h)
      few_step rest (Zid id) = (λ pool. h, λ n. h)
      few_step rest (Claimed c) = (λ pool. h, λ n. h)
      few_step rest (Init pid) = (λ pool. h, λ n. h)
      few_step rest Root = few_mounting j rest _ Root
      few_step rest (Mounted dir) = few_mounting j rest _ (Mounted dir)
      few_step rest _ = h

      few_over : (row : Option Record) (r : Request) → In Few (over brands d j row r)
      few_over (Some row) (request.Reboot args) = few_begin row d j.ticket (request.Boot args)
      few_over (Some row) _ = h
      few_over None r = h

      few_next : (n : Next) → FewBoth (shared_next v j n) (local_next brands o d j n)
      few_next Nothing_left = few_over stored j.request
      few_next (A_step s rest) = few_step rest s
      few_next (A_mount m left) = few_if m.held (stuck d) _ h (fewer (is_at m.mount.dir) o.mounts h)
      few_next (A_claim_left c left) = h

      few_undo : (outcome : Outcome) (rest : List Step) (s : Step) → FewBoth (Just (undone d j outcome rest (undo_edits s) s)) (local_undo o d j outcome rest s)
      few_undo outcome rest Root = few_if (is_held (mount_at root_dir o.mounts)) (stuck d) (undone d j outcome rest (Of_mounts (Go (is_at root_dir)) ∷ []) Root) h (fewer (is_at root_dir) o.mounts h)
      few_undo outcome rest (Mounted dir) = few_if (is_held (mount_at dir o.mounts)) (stuck d) (undone d j outcome rest (Of_mounts (Go (is_at dir)) ∷ []) (Mounted dir)) h (fewer (is_at dir) o.mounts h)
      few_undo outcome rest _ = h

      few_stage : (stage : Stage) → FewBoth (shared_stage v j stage) (local_stage brands o d j stage)
      few_stage (Goes_on left) = few_next (next o left)
      few_stage (Fails outcome []) = h
      few_stage (Fails outcome (s ∷ rest)) = few_undo outcome rest s

    few_request : (waiting : List (ℕ × Request)) (row : Option Record) → In Few (next_request brands d waiting row)
    few_request [] row = h
    few_request (r ∷ rs) None = h
    few_request (r ∷ rs) (Some row) = few_begin row (record d { waiting = rs }) r.0 r.1

    few_job : (job : Option Job) → FewBoth (shared_turn v job) (local_job brands o d job)
    few_job None = few_request d.waiting stored
    few_job (Some j) = few_stage j j.stage

    few_turn : In Few (turn v)
    unfolding turn local_turn
    few_turn = few_job d.job

-- an event of the zone
few-turned : (w : World) (g : Grant) → AreFew w.mounts → AreFew (acts_world None (turned_act (turn_act w g)) w).mounts
few-turned w g h =
    of_turned (λ stored ms d. AreFew ms) w g
    (in-act (Few (objects_of w) w.declared.devices w.brands w.desk h) (turn (seen_of w)) g (few_turn (objects_of w) w.declared.devices w.brands w.desk h w.stored))

called-few : (w : World) (n : Option ℕ) (c : Option Arrival) (es : List Edit) → Called w n c es → AreFew w.mounts → AreFew (edits_world n es (after_came_world c w)).mounts
called-few w _ _ _ (Forks n parent pid p name is) h = h
called-few w _ _ _ (Enters k pid name escape running idle) h = h
called-few w _ _ _ (Comes k pid name running) h = h
called-few w _ _ _ (Goes n pid) h = h
called-few w _ _ _ (Renames n pid name) h = h
called-few w _ _ _ (Drops n pid number) h = h

does-few : (z : Name) (w : World) → AreFew w.mounts → (n : Option ℕ) (c : Option Arrival) (es : List Edit) → Does z w n c es → AreFew (edits_world n es (after_came_world c w)).mounts
does-few z w h n c es does = of_does (λ v. AreFew v.mounts) z w (λ sessions console. h) (λ stored config m sessions console is. h) (λ row sessions console is e f. h) (λ r sessions room. h) (λ n c es called. called-few w n c es called h) (λ e mounted. mounted-few w.processes w.mounts e mounted h) n c es does

pub few-after : (z : Name) (brands : List Tabled) (commits : List Commit) (h : List Entry) → length (world z (after (opening brands commits) h)).mounts ≤ 128
few-after z brands commits h = kept-after (λ w. AreFew w.mounts)
    (λ z w e g few. of_any z w (λ v. AreFew v.mounts) (λ v few n c es does. does-few z v few n c es does) few g (few-turned w g few) e)
    (λ w d few. few) (λ w few. omega arith) (opening brands commits) h (λ z. omega arith) z
