-- Each process's set lies within its zone's limit set. What each zone keeps for that: one that may have processes is active
-- wherever a request ends or fails, and neither a step nor an undo changes its limits; and one that is running may have them.
use Rattle.std.proofs.Common.{◌≡◌, ◌∷◌, ◌++◌, [], ◌&&◌, ◌||◌, ◌∙◌, append-nil, ℕ, List, Bool, true, false, not, filter, Option, Some, None, Result, Ok as Right, Err, ap, map, refl, sym, subst}
use Rattle.std.specs.Prelude.{codes, is_ok, unwrap_or, if◌then◌else◌}
use Rattle.std.proofs.lemmas.Bool.{and_parts, false≢true, not-true, true≢false}
use Rattle.brand_hooks.specs.Brands.{Tabled, answer_of}
use Rattle.brand_hooks.specs.declared.table.HookAnswer.{HookAnswer}
use Rattle.brand_hooks.specs.declared.table.HookAnswer.TheVariants.{Proceed, Refuse}
use Rattle.config_terms.specs.declared.fault.ConfigFault.{ConfigFault}
use Rattle.datalink_table.specs.declared.claims.Claim.{Claim}
use Rattle.loopback_mounts.specs.declared.mount.Mount.{Mount}
use Rattle.zone_config.specs.declared.terms.Contents.{Contents}
use Rattle.zone_pools.specs.Decisions.{Just}
use Rattle.zone_pools.specs.Firsts.{is_nil}
use Rattle.zone_pools.specs.Owned_lists.{Change, Go, edited}
use Rattle.zone_pools.specs.declared.grant.Grant.{Grant}
use Rattle.zn_base.specs.Names.{Name}
use Rattle.zn_base.specs.declared.state.ZoneState.{ZoneState}
use Rattle.zn_base.specs.declared.state.ZoneState.TheVariants.{Configured, Incomplete, Installed, Ready, Running}
use Rattle.loopback_mounts.specs.Mounts.{is_at, is_held, mount_answer, mount_at}
use Rattle.kernel_objects.proofs.Kept.{at_pid_keeps, within-dropped, within-entered, within-forked, within-gone, within-renamed}
use Rattle.kernel_objects.specs.declared.objects.Id.{Id}
use Rattle.kernel_objects.specs.Kernel.{with_bootargs, within_limit}
use Rattle.kernel_objects.specs.Processes.{Process, at_pid, dropping, renamed, with_pid, without_pid}
use Rattle.zone_machine.specs.Code.Works.{turned_act}
use Rattle.zone_machine.proofs.Turned_laws.{In, in-act}
use Rattle.zoneadmd_steps.specs.Arrivals.{Arrival}
use Rattle.zoneadmd_steps.specs.Configs.{claims_of, fs_dirs, fs_mount, root_dir, root_mount, with_zonepath}
use Rattle.zoneadmd_steps.specs.Desks.{Desk, Fails, Goes as Goes_on, Job, Stage}
use Rattle.zoneadmd_steps.specs.Plans.{boot_part, kind_of, may_begin, plan, ready_part, refusal}
use Rattle.zoneadmd_steps.specs.Turns.{A_claim_left, A_mount, A_step, Next, Nothing_left, Seen, Turn_decision, Turned, active_after, advance, begin, bootargs_of, hooked, local_job, local_next, local_stage, local_step, local_turn, local_undo, mounting, new_path, next, next_request, or_shared, over, record_config, record_moved, record_state, shared_next, shared_stage, shared_step, shared_turn, started, stuck, turn, undo_edits, undone}
use Rattle.zone_machine.specs.Machine.Histories.{after}
use Rattle.zone_machine.specs.Machine.{decide, opening, session_number}
use Rattle.zoneadmd_steps.specs.Objects.{Of_mounts, all_of, keeping_pid, keeping_zid, kernel_of}
use Rattle.zone_cases.specs.State.Decisions.{act_of, acts_world, after_came_world}
use Rattle.zone_cases.specs.State.Edits.{Edit, console_gone_world, edits_world, keeps_by}
use Rattle.zone_cases.specs.State.Worlds.{World, objects_of, seen_of, view_of, world}
use Rattle.zoneadmd_steps.specs.declared.requests.Outcome.{Outcome}
use Rattle.zoneadmd_steps.specs.declared.requests.Request.{Request}
use Rattle.zoneadmd_steps.specs.declared.requests.Request.TheVariants as request
use Rattle.zoneadmd_steps.specs.declared.requests.Step.{Step}
use Rattle.zoneadmd_steps.specs.declared.requests.Step.TheVariants.{Hook, Record as Record_step, Moved, Source, Zid, Limits, Devices, Root, Mounted, Claimed, State as State_step, Init, Kill, Clear, ZidBack}
use Rattle.zone_cases.specs.declared.events.Entry.{Entry}
use Rattle.zone_cases.specs.declared.events.Event.{Event}
use Rattle.commit_journal.specs.declared.records.Commit.{Commit}
use Rattle.commit_journal.specs.declared.records.Record.{Record}
use Rattle.zone_views.proofs.Deciding.{Called, Comes, Does, Drops, Enters, Forks, Goes, Renames, of_any, of_does}
use Rattle.zone_views.proofs.Keeping.{kept-after}
use Rattle.zone_views.proofs.Nexts.{Holds_next, begins, holds-next}

abbrev pub is_up : Option ZoneState → Bool
is_up None = false
is_up (Some Installed) = false
is_up (Some _) = true

-- a zone whose state is running may have processes
abbrev pub runs_only : (may : Bool) → (active : Option ZoneState) → Bool
runs_only true active = true
runs_only false (Some Running) = false
runs_only false active = true

-- a zone that may have processes is active, and a failure undoes nothing
abbrev pub stands : (may : Bool) → (active : Option ZoneState) → (clean : Bool) → Bool
stands may active clean = not may || (is_up active && clean)

-- so it is where a step may fail and at the end of a plan, which changes the limits only where there are no processes, and
-- keeps that a running zone may have them
abbrev pub plan_stands : (may : Bool) → (active : Option ZoneState) → (clean : Bool) → List Step → Bool
plan_stands may active clean [] = stands may active true
plan_stands may active clean (Hook change ∷ rest) = stands may active clean && plan_stands may active clean rest
plan_stands may active clean (Record_step s ∷ rest) = stands may active clean && plan_stands may active clean rest
plan_stands may active clean (Moved ∷ rest) = stands may active clean && plan_stands may active clean rest
plan_stands may active clean (Source z ∷ rest) = stands may active clean && plan_stands may active clean rest
plan_stands may active clean (Zid id ∷ rest) = not may && plan_stands may active false rest
plan_stands may active clean (Limits ∷ rest) = not may && plan_stands may active false rest
plan_stands may active clean (Devices count ∷ rest) = plan_stands may active false rest
plan_stands may active clean (Root ∷ rest) = plan_stands may active false rest
plan_stands may active clean (Mounted dir ∷ rest) = plan_stands may active false rest
plan_stands may active clean (Claimed c ∷ rest) = not may && plan_stands may active false rest
plan_stands may active clean (State_step Ready ∷ rest) = runs_only may (Some Ready) && plan_stands may (Some Ready) true rest
plan_stands may active clean (State_step s ∷ rest) = runs_only may (active_after s) && plan_stands may (active_after s) clean rest
plan_stands may active clean (Init pid ∷ rest) = stands may active clean && plan_stands true active clean rest
plan_stands may active clean (Kill count ∷ rest) = runs_only false active && plan_stands false active clean rest
plan_stands may active clean (Clear ∷ rest) = not may && plan_stands may active clean rest
plan_stands may active clean (ZidBack id ∷ rest) = not may && plan_stands may active clean rest
plan_stands may active clean (_ ∷ rest) = plan_stands may active clean rest

abbrev pub stage_stands : (may : Bool) → (active : Option ZoneState) → (made : List Step) → Stage → Bool
stage_stands may active made (Goes_on left) = plan_stands may active (is_nil made) left
stage_stands may active made (Fails outcome undo) = stands may active (is_nil undo)

abbrev pub desk_stands : Bool → Option ZoneState → Option Job → Bool
desk_stands may active None = stands may active true
desk_stands may active (Some j) = stage_stands may active j.done.made j.stage

-- what a zone keeps that has these processes and ids and whose desk says this
pub record IsLimited (ps : List Process) (is : List Id) (active : Option ZoneState) (job : Option Job) : Type 0 where
  -- whether the zone may have processes
  pub may : Bool
  pub none : may ≡ false → ps ≡ []
  pub within : within_limit (kernel_of (record { processes = ps; mounts = []; claims = []; devices = []; ids = is })) ≡ true
  pub runs : runs_only may active ≡ true
  pub desk : desk_stands may active job ≡ true

abbrev pub Limited : World → Type 0
Limited w = IsLimited w.processes w.ids w.desk.active w.desk.job

-- the ready part of a zone without processes, before what comes after it
module _ (active : Option ZoneState) where
  dirs_stand : (dirs : List (List ℕ)) (rest more : List Step) → plan_stands false active false (rest ++ more) ≡ true → plan_stands false active false ((map Mounted dirs ++ rest) ++ more) ≡ true
  dirs_stand [] rest more h = h
  dirs_stand (dir ∷ dirs) rest more h = dirs_stand dirs rest more h

  claims_stand : (cs : List Claim) (rest more : List Step) → plan_stands false active false (rest ++ more) ≡ true → plan_stands false active false ((map Claimed cs ++ rest) ++ more) ≡ true
  claims_stand [] rest more h = h
  claims_stand (c ∷ cs) rest more h = claims_stand cs rest more h

  ready_stands : (c : Contents) (more : List Step) → plan_stands false (Some Ready) true more ≡ true → plan_stands false active true (ready_part c ++ more) ≡ true
  ready_stands c more h = dirs_stand (fs_dirs c) _ more (claims_stand (claims_of c) _ more h)

-- a request that may begin
fresh_stands : (r : Request) (s : ZoneState) (active : Option ZoneState) (c : Contents) → may_begin (kind_of r) s ≡ true → plan_stands false active true (plan r s c) ≡ true
fresh_stands request.Install Configured active c m = refl
fresh_stands (request.Clone source) Configured active c m = refl
fresh_stands request.Attach Configured active c m = refl
fresh_stands request.Detach Installed active c m = refl
fresh_stands request.Uninstall Installed active c m = refl
fresh_stands request.Uninstall Incomplete active c m = refl
fresh_stands request.Mark Installed active c m = refl
fresh_stands (request.Move path) Installed active c m = refl
fresh_stands request.Ready Installed active c m = subst (λ p. plan_stands false active true p ≡ true) (append-nil (ready_part c)) (ready_stands active c [] refl)
fresh_stands (request.Boot args) Installed active c m = ready_stands active c boot_part refl
fresh_stands (request.Boot args) Ready active c m = refl
fresh_stands request.Halt Ready active c m = refl
fresh_stands request.Halt Running active c m = refl
fresh_stands (request.Reboot args) Ready active c m = refl
fresh_stands (request.Reboot args) Running active c m = refl
fresh_stands r s active c m = absurd (false≢true m)

active_stands : (r : Request) (a : ZoneState) (c : Contents) → may_begin (kind_of r) a ≡ true → stands true (Some a) true ≡ true → plan_stands true (Some a) true (plan r a c) ≡ true
active_stands request.Install Configured c m s = refl
active_stands (request.Clone source) Configured c m s = refl
active_stands request.Attach Configured c m s = refl
active_stands request.Uninstall Incomplete c m s = refl
active_stands (request.Boot args) Ready c m s = refl
active_stands request.Halt Ready c m s = refl
active_stands request.Halt Running c m s = refl
active_stands (request.Reboot args) Ready c m s = refl
active_stands (request.Reboot args) Running c m s = refl
active_stands request.Detach Installed c m s = absurd (false≢true s)
active_stands request.Uninstall Installed c m s = absurd (false≢true s)
active_stands request.Mark Installed c m s = absurd (false≢true s)
active_stands (request.Move path) Installed c m s = absurd (false≢true s)
active_stands request.Ready Installed c m s = absurd (false≢true s)
active_stands (request.Boot args) Installed c m s = absurd (false≢true s)
active_stands r a c m s = absurd (false≢true m)

begin_stands : (r : Request) (active : Option ZoneState) (s : ZoneState) (c : Contents) (may : Bool) → may_begin (kind_of r) (unwrap_or active s) ≡ true → stands may active true ≡ true
    → plan_stands may active true (plan r (unwrap_or active s) c) ≡ true
begin_stands r active s c false m h = fresh_stands r (unwrap_or active s) active c m
begin_stands r None s c true m h = absurd (false≢true h)
begin_stands r (Some a) s c true m h = active_stands r a c m h

none_left : (ps : List Process) → filter (λ p. not (all_of p)) ps ≡ []
none_left [] = refl
none_left (p ∷ ps) = none_left ps

-- the arguments of a boot leave the limits
booted : (args : List ℕ) (ps : List Process) (is : List Id) → within_limit (kernel_of (record { processes = ps; mounts = []; claims = []; devices = []; ids = is })) ≡ true
    → within_limit (kernel_of (record { processes = ps; mounts = []; claims = []; devices = []; ids = edited (Change (keeping_zid (with_bootargs args))) is })) ≡ true
booted args ps [] h = h
booted args ps (i ∷ is) h = h

-- nor does what becomes of its console change what a zone keeps
gone_limited : (keeps : Bool) (v : World) (active : Option ZoneState) (job : Option Job) → IsLimited v.processes v.ids active job → IsLimited (console_gone_world keeps v).processes (console_gone_world keeps v).ids active job
gone_limited true v active job h = h
gone_limited false v active job h = h

-- an event of a zone with this world
module _ (w : World) (may : Bool) (none : may ≡ false → w.processes ≡ []) (within : within_limit (kernel_of (objects_of w)) ≡ true)
    (runs : runs_only may w.desk.active ≡ true) where
  -- the processes, the id and the state stay, or the state changes, or the id of a zone without processes
  stay : {job : Option Job} → desk_stands may w.desk.active job ≡ true → IsLimited w.processes w.ids w.desk.active job
  stay h = record { may = may; none = none; within = within; runs = runs; desk = h }

  move : {active : Option ZoneState} {job : Option Job} → (runs_only may active && desk_stands may active job) ≡ true → IsLimited w.processes w.ids active job
  move {active = active} {job = job} h =
      let parts = and_parts (runs_only may active) (desk_stands may active job) h in
      record { may = may; none = none; within = within; runs = parts.0; desk = parts.1 }

  change : {is : List Id} {job : Option Job} → (not may && desk_stands may w.desk.active job) ≡ true → IsLimited w.processes is w.desk.active job
  change {job = job} h =
      let parts = and_parts (not may) (desk_stands may w.desk.active job) h in
      record { may = may; none = none; within = rw (none (not-true may parts.0)) refl; runs = runs; desk = parts.1 }

  abbrev Leaves : Option Arrival → Turned → Type 0
  Leaves c t = Limited (acts_world None (turned_act (record { came = c; effect = t })) w)

  leaves_if : (b : Bool) (t u : Turned) → Leaves None t → Leaves None u → Leaves None (if b then t else u)
  leaves_if true t u h k = h
  leaves_if false t u h k = k

  -- a turn of the zone
  module _ (row : Option Record) (still : desk_stands may w.desk.active w.desk.job ≡ true) where
    abbrev d : Desk
    d = w.desk

    abbrev v : Seen
    v = record (seen_of w) { stored = row }

    abbrev active : Option ZoneState
    active = d.active

    abbrev LeavesBoth : Turn_decision → Option Turned → Type 0
    LeavesBoth shared local = In Leaves (or_shared shared local)

    abbrev Stands : Job → List Step → Type 0
    Stands j left = plan_stands may active (is_nil j.done.made) left ≡ true

    leaves_mounting : (j : Job) (rest : List Step) (m : Mount) (shown : Step) → desk_stands may active (advance d j rest [] shown).desk.job ≡ true → Leaves None (advance d j rest (mounting m w.mounts) shown)
    leaves_mounting j rest m shown h = at_test (is_ok (mount_answer m.dir w.mounts)) refl
      where
        at_test : (b : Bool) → is_ok (mount_answer m.dir w.mounts) ≡ b → Leaves None (advance d j rest (mounting m w.mounts) shown)
        at_test true e = simp e (stay h)
        at_test false e = simp e (stay h)

    limited_state : (j : Job) (rest : List Step) (s : ZoneState) (row : Option Record) → Stands j (Record_step s ∷ rest) → In Leaves (record_state d j rest s row)
    limited_state j rest s None h = stay still
    limited_state j rest s (Some row) h = let parts = and_parts (stands may active (is_nil j.done.made)) _ h in (λ pool. stay parts.0, λ n. gone_limited (keeps_by s) _ _ _ (stay parts.1))

    limited_config : (j : Job) (rest : List Step) (path : List ℕ) (row : Record) (r : Result Contents ConfigFault) → Stands j (Moved ∷ rest) → In Leaves (record_config d j rest path row r)
    limited_config j rest path row (Err fault) h = let parts = and_parts (stands may active (is_nil j.done.made)) _ h in stay parts.0
    limited_config j rest path row (Right config) h = let parts = and_parts (stands may active (is_nil j.done.made)) _ h in (λ pool. stay parts.0, λ n. gone_limited (keeps_by row.state) _ _ _ (stay parts.1))

    limited_moved : (j : Job) (rest : List Step) (path : List ℕ) (row : Option Record) → Stands j (Moved ∷ rest) → In Leaves (record_moved d j rest path row)
    limited_moved j rest path None h = stay still
    limited_moved j rest path (Some row) h = limited_config j rest path row (with_zonepath path row.config) h

    limited_step : (j : Job) (rest : List Step) (s : Step) → Stands j (s ∷ rest) → LeavesBoth (shared_step v j rest s) (local_step w.brands (objects_of w) d j rest s)
    limited_step j rest (Hook change) h = at_answer (answer_of w.brands j.brand change) (and_parts (stands may active (is_nil j.done.made)) _ h)
      where
        at_answer : (answer : HookAnswer) → (stands may active (is_nil j.done.made) ≡ true) × (plan_stands may active (is_nil j.done.made) rest ≡ true) → Leaves None (hooked d j rest change answer)
        at_answer Proceed parts = stay parts.1
        at_answer (Refuse code) parts = stay parts.0
    limited_step j rest (Record_step s) h = limited_state j rest s row h
    limited_step j rest Moved h = limited_moved j rest (new_path j.request) row h
    limited_step j rest (Source z) h = let parts = and_parts (stands may active (is_nil j.done.made)) _ h in (λ pool. stay parts.0, λ n. stay parts.1)
    limited_step j rest (Zid id) h = let parts = and_parts (not may) _ h in (λ pool. stay (rw (not-true may parts.0) refl), λ n. change h)
    limited_step j rest Limits h = change h
    limited_step j rest Root h = leaves_mounting j rest (root_mount j.config) Root h
    limited_step j rest (Mounted dir) h = leaves_mounting j rest (fs_mount j.config dir) (Mounted dir) h
    limited_step j rest (Claimed c) h = let parts = and_parts (not may) _ h in (λ pool. stay (rw (not-true may parts.0) refl), λ n. stay parts.1)
    limited_step j rest (State_step Ready) h = move h
    limited_step j rest (State_step s) h = move h
    limited_step j rest (Init pid) h =
        let parts = and_parts (stands may active (is_nil j.done.made)) _ h in (
          λ pool. stay parts.0,
          λ n. record {
            may = true;
            none = λ e. absurd (true≢false e);
            within = booted (bootargs_of j.request j.config) _ w.ids (within-entered (kernel_of (objects_of w)) (codes "init") true n within);
            runs = refl;
            desk = parts.1;
          },
        )
    limited_step j rest (Kill count) h =
        let gone = none_left w.processes in
        let parts = and_parts (runs_only false active) _ h in
        record { may = false; none = λ e. gone; within = rw gone refl; runs = parts.0; desk = parts.1 }
    limited_step j rest Clear h = change h
    limited_step j rest (ZidBack id) h = change h
    limited_step j rest _ h = stay h

    -- a request begins, or ends at once
    limited_begin : (waiting : List (ℕ × Request)) (t : ℕ) (r : Request) (row : Record) → stands may active true ≡ true → Leaves None (begin w.brands (record d { waiting = waiting }) t r row)
    limited_begin waiting t r row h = at_outcome (refusal w.brands (kind_of r) (unwrap_or d.active row.state) row.config) refl
      where
        at_outcome : (outcome : Option Outcome) → refusal w.brands (kind_of r) (unwrap_or d.active row.state) row.config ≡ outcome
            → Leaves None (started w.brands (record d { waiting = waiting }) t r (unwrap_or d.active row.state) row outcome)
        at_outcome None e = stay (begin_stands r d.active row.state row.config may (begins w.brands (kind_of r) (unwrap_or d.active row.state) row.config e) h)
        at_outcome (Some outcome) e = stay h

    limited_over : (j : Job) (row : Option Record) (r : Request) → stands may active true ≡ true → In Leaves (over w.brands d j row r)
    limited_over j (Some row) (request.Reboot args) h = limited_begin d.waiting j.ticket (request.Boot args) row h
    limited_over j None (request.Reboot args) h = stay h
    limited_over j row _ h = stay h

    limited_next : (j : Job) (n : Next) → Holds_next (Stands j) (λ dir rest l. l) (λ c rest l. l) (objects_of w) n → LeavesBoth (shared_next v j n) (local_next w.brands (objects_of w) d j n)
    limited_next j Nothing_left h = limited_over j row j.request h
    limited_next j (A_step s rest) h = limited_step j rest s h
    limited_next j (A_mount m left) h = leaves_if m.held (stuck d) _ (stay still) (stay h)
    limited_next j (A_claim_left c left) h = stay h

    -- a step back, of a zone without processes
    shut : (may up : Bool) → (not may || (up && false)) ≡ true → may ≡ false
    shut false _ h = refl
    shut true true h = absurd (false≢true h)
    shut true false h = absurd (false≢true h)

    limited_undo : (j : Job) (outcome : Outcome) (rest : List Step) (s : Step) → may ≡ false → LeavesBoth (Just (undone d j outcome rest (undo_edits s) s)) (local_undo (objects_of w) d j outcome rest s)
    limited_undo j outcome rest (Zid id) e = change (rw e refl)
    limited_undo j outcome rest Root e = leaves_if (is_held (mount_at root_dir w.mounts)) (stuck d) (undone d j outcome rest (Of_mounts (Go (is_at root_dir)) ∷ []) Root) (stay still) (change (rw e refl))
    limited_undo j outcome rest (Mounted dir) e =
        leaves_if (is_held (mount_at dir w.mounts)) (stuck d) (undone d j outcome rest (Of_mounts (Go (is_at dir)) ∷ []) (Mounted dir)) (stay still) (change (rw e refl))
    limited_undo j outcome rest _ e = change (rw e refl)

    limited_stage : (j : Job) (stage : Stage) → stage_stands may active j.done.made stage ≡ true → LeavesBoth (shared_stage v j stage) (local_stage w.brands (objects_of w) d j stage)
    limited_stage j (Goes_on left) h = limited_next j (next (objects_of w) left) (holds-next (Stands j) (λ dir rest l. l) (λ c rest l. l) (objects_of w) left h)
    limited_stage j (Fails outcome []) h = stay h
    limited_stage j (Fails outcome (s ∷ rest)) h = limited_undo j outcome rest s (shut may (is_up active) h)

    limited_request : (waiting : List (ℕ × Request)) (row : Option Record) → stands may active true ≡ true → In Leaves (next_request w.brands d waiting row)
    limited_request (r ∷ rs) (Some row) h = limited_begin rs r.0 r.1 row h
    limited_request (r ∷ rs) None h = stay still
    limited_request [] row h = stay still

    limited_job : (job : Option Job) → desk_stands may active job ≡ true → LeavesBoth (shared_turn v job) (local_job w.brands (objects_of w) d job)
    limited_job None h = limited_request d.waiting row h
    limited_job (Some j) h = limited_stage j j.stage h

  limited_turn : desk_stands may w.desk.active w.desk.job ≡ true → In Leaves (turn (seen_of w))
  unfolding turn local_turn
  limited_turn h = limited_job w.stored h w.desk.job h

  -- a call or a signal. What keeps its number already is kept whole
  limited_change : (pid : ℕ) (f : Process → Process) → ((p : Process) → (f p).pid ≡ p.pid) → within_limit (kernel_of (objects_of (record w { processes = edited (Change (at_pid pid f)) w.processes }))) ≡ true
      → desk_stands may w.desk.active w.desk.job ≡ true → Limited (record w { processes = edited (Change (keeping_pid (at_pid pid f))) w.processes })
  limited_change pid f keeps fits h = record {
    may = may;
    none = λ e. ap (edited (Change (keeping_pid (at_pid pid f)))) (none e);
    within = subst (λ (g : Process → Process). within_limit (kernel_of (objects_of (record w { processes = edited (Change g) w.processes }))) ≡ true) whole fits;
    runs = runs;
    desk = h;
  }
    where
      whole : at_pid pid f ≡ keeping_pid (at_pid pid f)
      whole = λ i. λ p. record (at_pid pid f p) { pid = at_pid_keeps pid f keeps p i }

  limited_called : (n : Option ℕ) (c : Option Arrival) (es : List Edit) → Called w n c es → desk_stands may w.desk.active w.desk.job ≡ true → Limited (edits_world n es (after_came_world c w))
  limited_called _ _ _ (Forks n parent pid p name is) h =
      record { may = may; none = λ e. absurd (nobody e); within = within-forked (kernel_of (objects_of w)) parent pid p name is within; runs = runs; desk = h }
    where
      nobody : may ≡ false → ⊥
      nobody e = let none : None ≡ Some p = sym (ap (with_pid parent) (none e)) ∙ is in cc
  limited_called _ _ _ (Enters k pid name escape running idle) h =
      record { may = may; none = λ e. absurd (false≢true (rw (e, running) at runs)); within = within-entered (kernel_of (objects_of w)) name false pid within; runs = runs; desk = h }
  limited_called _ _ _ (Comes k pid name running) h =
      record { may = may; none = λ e. absurd (false≢true (rw (e, running) at runs)); within = within-entered (kernel_of (objects_of w)) name false pid within; runs = runs; desk = h }
  limited_called _ _ _ (Goes n pid) h = record { may = may; none = λ e. ap (without_pid pid) (none e); within = within-gone (kernel_of (objects_of w)) pid within; runs = runs; desk = h }
  limited_called _ _ _ (Renames n pid name) h = limited_change pid (renamed name) (λ p. refl) (within-renamed (kernel_of (objects_of w)) pid name within) h
  limited_called _ _ _ (Drops n pid number) h = limited_change pid (dropping number) (λ p. refl) (within-dropped (kernel_of (objects_of w)) pid number within) h

pub limited-does : (z : Name) (w : World) → Limited w → (n : Option ℕ) (c : Option Arrival) (es : List Edit) → Does z w n c es → Limited (edits_world n es (after_came_world c w))
limited-does z w is =
    of_does Limited z w (λ sessions console. is) (λ stored config k sessions console same. is) (λ row sessions console same configured idle. is) (λ r sessions room. is)
    (λ n c es called. limited_called w is.may is.none is.within is.runs n c es called is.desk) (λ e mounted. record { may = is.may; none = is.none; within = is.within; runs = is.runs; desk = is.desk })

pub limited-event : (z : Name) (w : World) (e : Event) (g : Grant) → Limited w → Limited (acts_world (session_number e) (act_of (decide (view_of z w) e) g) w)
limited-event z w e g is =
    let turned = in-act (Leaves w is.may is.none is.within is.runs) (turn (seen_of w)) g (limited_turn w is.may is.none is.within is.runs is.desk) in
    of_any z w Limited (λ v h. limited-does z v h) is g turned e

pub within-history : (z : Name) (brands : List Tabled) (commits : List Commit) (h : List Entry) → within_limit (kernel_of (objects_of (world z (after (opening brands commits) h)))) ≡ true
within-history z brands commits h = (kept-after Limited limited-event (λ w d is. record { may = is.may; none = is.none; within = is.within; runs = is.runs; desk = is.desk }) (λ w is. record { may = false; none = λ e. refl; within = refl; runs = refl; desk = refl }) (opening brands commits) h (λ z. record { may = false; none = λ e. refl; within = refl; runs = refl; desk = refl }) z).within
