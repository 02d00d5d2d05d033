-- What the code's cases of a turn decide, as the definitions have it.
use Rattle.std.specs.Prelude.{◌≡◌, ℕ, ◌<◌, ◌≤◌, ◌-◌, List, [], ◌∷◌, drop, length, slice_get, Bool, true, false, Option, Some, None, Ok, IfOk, IsSomeAnd, if◌then◌else◌}
use Rattle.zone_pools.specs.declared.grant.Grant.{Grant}
use Rattle.std.specs.Option.{option_map}
use Rattle.brand_hooks.specs.Brands.{Tabled, answer_of}
use Rattle.brand_hooks.specs.declared.change.Change.{Change}
use Rattle.brand_hooks.specs.declared.table.HookAnswer.{HookAnswer}
use Rattle.brand_hooks.specs.declared.table.HookAnswer.TheVariants.{Proceed}
use Rattle.config_terms.specs.Fields.{path_text}
use Rattle.datalink_table.specs.Claims.{pool_of}
use Rattle.kernel_objects.specs.Kernel.{cleared, limited, new_id, with_bootargs}
use Rattle.kernel_objects.specs.Processes.{at_pid, dropping, process_of, renamed}
use Rattle.datalink_table.specs.declared.claims.Claim as claims
use Rattle.loopback_mounts.specs.Mounts.{at_dir, before, is_at, last_of, mount_answer, with_hold}
use Rattle.loopback_mounts.specs.declared.mount.MountEntry.{MountEntry}
use Rattle.zn_base.specs.Names.{Name}
use Rattle.zn_base.specs.declared.state.ZoneState.{ZoneState}
use Rattle.zone_pools.specs.Asked.{A_path, A_pid, A_source, A_zid, An_item, Asked}
use Rattle.zone_pools.specs.Decisions as decisions
use Rattle.zone_pools.specs.Firsts.{first_of}
use Rattle.zone_pools.specs.Owned_lists.{Change as Change_each, Go, Put}
use Rattle.zoneadmd_steps.specs.Arrivals.{A_claim, A_process, A_record, An_id, Comes, No_thing, record_asked}
use Rattle.zoneadmd_steps.specs.Desks as desks
use Rattle.zoneadmd_steps.specs.Desks.{Fails, Goes, Stage}
use Rattle.zoneadmd_steps.specs.Objects.{ids_of, Devices_are, Ids_change, Ids_go, Last_claim_goes, Object_edit, Of_mounts, Process_goes, Processes_change, Processes_go, all_of}
use Rattle.zoneadmd_steps.specs.Objects as objects
use Rattle.zoneadmd_steps.specs.Code.Desks.{as_desk, as_job, as_outcome}
use Rattle.zone_config.specs.Property.{blank}
use Rattle.zoneadmd_steps.specs.Plans.{halt_part, kind_of}
use Rattle.zoneadmd_steps.specs.Turns.{A_step, Next, Turn_decision, Turned, active_after, advance, asking, failed, finish, next, no_progress, reports, rests, stuck, undone, with_job}
use Rattle.zoneadmd_steps.specs.declared.cases.JobCase.{JobCase}
use Rattle.zoneadmd_steps.specs.declared.cases.JobCase.TheVariants.{Finish, Pass, Unmounts, Releases, Ask, Fail, Undo, Stuck}
use Rattle.zoneadmd_steps.specs.declared.cases.TurnCase.{TurnCase}
use Rattle.zoneadmd_steps.specs.declared.cases.TurnCase.TheVariants.{Idle, Begin, BeginHalt, Refuse, Again, GoOn}
use Rattle.zoneadmd_steps.specs.declared.requests.Request.{Request}
use Rattle.zoneadmd_steps.specs.declared.requests.Request.TheVariants as request
use Rattle.zoneadmd_steps.specs.declared.requests.Step.{Step}
use Rattle.zoneadmd_steps.specs.declared.requests.Step.TheVariants as step
use Rattle.zoneadmd_steps.specs.declared.requests.TurnReply.TheVariants as reply
use Rattle.zoneadmd_steps.specs.declared.desks.Desk.{Desk}
use Rattle.zoneadmd_steps.specs.declared.desks.Job.{Job}
use Rattle.zoneadmd_steps.specs.declared.objects.Objects.{Objects}
use Rattle.zoneadmd_steps.specs.declared.objects.changes.Came.{Came}
use Rattle.zoneadmd_steps.specs.declared.objects.changes.Came.TheVariants.{Process, Id, Claim, Record, Moved, Source}
use Rattle.zoneadmd_steps.specs.declared.objects.changes.ObjectEdit.{ObjectEdit}
use Rattle.zoneadmd_steps.specs.declared.objects.changes.ObjectEdit.TheVariants.{Clear, ClearLimits, DropDevices, EndClaim, EndIds, EndProcess, EndProcesses, GiveUp, Hold, Mount, Nothing, Release, ReleaseLast, Rename, SetBootargs, SetDevices, SetLimits, Unmount, UnmountLast}

abbrev pub as_objects : Objects → objects.Objects
as_objects o = record { processes = o.kernel.now.processes; mounts = o.mounts.now.list; claims = o.claims.now.claims; devices = o.kernel.now.devices; ids = ids_of o.kernel.now.id }

abbrev pub object_edits : ObjectEdit → List Object_edit
object_edits Nothing = []
object_edits EndProcesses = Processes_go all_of ∷ []
object_edits (EndProcess pid) = Process_goes pid ∷ []
object_edits (Rename pid name) = Processes_change (at_pid pid (renamed name)) ∷ []
object_edits (GiveUp pid number) = Processes_change (at_pid pid (dropping number)) ∷ []
object_edits (Mount m) = Of_mounts (Put (before m.value.dir) (record { mount = m.value; held = false })) ∷ []
object_edits (Unmount dir) = Of_mounts (Go (is_at dir)) ∷ []
object_edits (UnmountLast dir) = Of_mounts (Go (is_at dir.value)) ∷ []
object_edits (Hold dir) = Of_mounts (Change_each (at_dir dir (with_hold true))) ∷ []
object_edits (Release dir) = Of_mounts (Change_each (at_dir dir (with_hold false))) ∷ []
object_edits EndClaim = Last_claim_goes ∷ []
object_edits (ReleaseLast claim) = Last_claim_goes ∷ []
object_edits (SetDevices ds) = Devices_are ds ∷ []
object_edits DropDevices = Devices_are [] ∷ []
object_edits EndIds = Ids_go all_of ∷ []
object_edits (SetLimits l) = Ids_change (limited l.value.set l.value.most l.value.fs_allowed) ∷ []
object_edits (SetBootargs args) = Ids_change (with_bootargs args) ∷ []
object_edits ClearLimits = Ids_change cleared ∷ []
object_edits Clear = Ids_change cleared ∷ Devices_are [] ∷ []

-- what comes with a grant, the pools that are asked for it, what the step does beside, and the step as it is told under the number
abbrev pub comes_of : Came → Comes
comes_of (Process p args) = A_process (process_of (0, p.value))
comes_of Id = An_id (new_id 0)
comes_of (Claim c) = A_claim c
comes_of (Record r owner) = A_record (λ n. Some r.value)
comes_of (Moved r owner new) = A_record (λ n. Some (record r.value { revision = n }))
comes_of (Source source) = No_thing

abbrev pub asked_for : Came → List Asked
asked_for (Process p args) = A_pid ∷ []
asked_for Id = A_zid ∷ []
asked_for (Claim c) = An_item (pool_of c.kind) c.item ∷ []
asked_for (Record r owner) = record_asked (λ n. Some r.value) ∷ []
asked_for (Moved r owner new) =
    let serial = record_asked (λ n. Some (record r.value { revision = n })) in
    if new then A_path (path_text r.value.config.zonepath) ∷ serial ∷ [] else serial ∷ []
asked_for (Source source) = A_source source ∷ []

abbrev pub edits_under : Came → List Object_edit
edits_under (Process p args) = Ids_change (with_bootargs args) ∷ []
edits_under _ = []

abbrev pub shown_under : Came → ℕ → Step
shown_under (Process p args) n = step.Init (Some n)
shown_under Id n = step.Zid (Some n)
shown_under (Claim c) n = step.Claimed c
shown_under (Record r owner) n = step.Record r.value.state
shown_under (Moved r owner new) n = step.Moved
shown_under (Source source) n = step.Source source

-- the zone's state on its desk after a step
abbrev pub active_with : Step → Option ZoneState → Option ZoneState
active_with (step.State s) active = active_after s
active_with _ active = active

-- the latest step that is to be undone is undone; a desk has no such case where none is
abbrev pub undo_with : desks.Desk → desks.Job → List Object_edit → Stage → Turn_decision
undo_with d j edits (Goes left) = decisions.Just (rests d)
undo_with d j edits (Fails outcome []) = decisions.Just (rests d)
undo_with d j edits (Fails outcome (s ∷ rest)) = decisions.Just (undone d j outcome rest edits s)

-- what a case of the request under way decides
abbrev pub job_turn : desks.Desk → Job → JobCase → Turn_decision
job_turn d j (Finish outcome) = decisions.Just (finish d j.ticket outcome)
job_turn d j (Pass p) = decisions.Just (advance (record d { active = active_with p.shown d.active }) (as_job j) (drop p.next j.steps) (object_edits p.objects) p.shown)
job_turn d j (Unmounts dir next) = decisions.Just (advance d (as_job j) (drop next j.steps) (object_edits (UnmountLast dir)) (step.Unmount (Some dir.value)))
job_turn d j (Releases claim next) = decisions.Just (advance d (as_job j) (drop next j.steps) (object_edits (ReleaseLast claim)) (step.Release (Some claim.value)))
job_turn d j (Ask it next) = asking d (as_job j) (drop next j.steps) (comes_of it) (asked_for it) (edits_under it) (shown_under it)
job_turn d j (Fail f) = decisions.Just (failed d (as_job j) (as_outcome f))
job_turn d j (Undo objects) = undo_with d (as_job j) (object_edits objects) (as_job j).stage
job_turn d j Stuck = decisions.Just (stuck d)

-- a desk without a request under way has no such case
abbrev pub on_job : Desk → Option Job → JobCase → Turn_decision
on_job d None c = decisions.Just (rests (as_desk d))
on_job d (Some j) c = job_turn (as_desk d) j c

-- the desk without the first request that waits
abbrev pub without_first : Desk → desks.Desk
without_first d = record (as_desk d) { waiting = drop 1 d.waiting.items }

abbrev pub begun : desks.Desk → desks.Job → Turned
begun d j = reports [] (with_job d j) (reply.Began j.ticket (kind_of j.request))

-- the first request that waits is a halt, and begins
abbrev pub halt_job : ℕ → Option ℕ → desks.Job
halt_job t brand = record { ticket = t; request = request.Halt; brand = brand; config = blank; done = no_progress; stage = Goes halt_part }

abbrev pub halt_begun : Desk → List (ℕ × Request) → Option ℕ → Turn_decision
halt_begun d [] brand = decisions.Just (rests (as_desk d))
halt_begun d (first ∷ rest) brand = decisions.Just (begun (without_first d) (halt_job first.0 brand))

-- what a turn decides
abbrev pub turn_decision_of : Desk → TurnCase → Turn_decision
turn_decision_of d Idle = decisions.Just (rests (as_desk d))
turn_decision_of d (BeginHalt brand) = halt_begun d d.waiting.items brand
turn_decision_of d (Begin job) = decisions.Just (begun (without_first d) (as_job job.value))
turn_decision_of d (Refuse ticket outcome) = decisions.Just (finish (without_first d) ticket outcome)
turn_decision_of d (Again job) = decisions.Just (begun (as_desk d) (as_job job.value))
turn_decision_of d (GoOn c) = on_job d d.job c

-- a step that is taken out of the plan once it is done stands there, just before the next one
abbrev pub IsInPlan : List Step → ℕ → Step → Type 0
IsInPlan steps next (step.Mounted dir) = (0 < next) × (slice_get steps (next - 1) ≡ Some (step.Mounted dir))
IsInPlan steps next (step.Claimed c) = (0 < next) × (slice_get steps (next - 1) ≡ Some (step.Claimed c))
IsInPlan steps next _ = Unit {0}

-- whether something goes by an edit as the last, which its turn has to tell
abbrev pub is_last : ObjectEdit → Bool
is_last (UnmountLast dir) = true
is_last (ReleaseLast claim) = true
is_last _ = false

-- the case is one of a desk like this
abbrev pub IsJobCase : Job → JobCase → Type 0
IsJobCase j (Pass p) = (j.failure ≡ None) × IsInPlan j.steps p.next p.shown × (is_last p.objects ≡ false)
IsJobCase j (Unmounts dir next) = j.failure ≡ None
IsJobCase j (Releases claim next) = j.failure ≡ None
IsJobCase j (Ask it next) = (j.failure ≡ None) × IsInPlan j.steps next (shown_under it 0)
IsJobCase j (Fail f) = j.failure ≡ None
IsJobCase j (Undo objects) = IsSomeAnd j.failure (λ f. 0 < length j.made.items) × (is_last objects ≡ false)
IsJobCase j _ = Unit {0}

abbrev pub IsHaltFirst : List (ℕ × Request) → Type 0
IsHaltFirst waiting = IsSomeAnd (first_of waiting) (λ first. first.1 ≡ request.Halt)

abbrev pub IsTurnOf : Desk → TurnCase → Type 0
IsTurnOf d Idle = Unit {0}
IsTurnOf d (Begin job) = 0 < length d.waiting.items
IsTurnOf d (BeginHalt brand) = IsHaltFirst d.waiting.items
IsTurnOf d (Refuse ticket outcome) = 0 < length d.waiting.items
IsTurnOf d (Again job) = Unit {0}
IsTurnOf d (GoOn c) = IsSomeAnd d.job (λ j. IsJobCase j c)

-- what comes is named by the zone
abbrev pub IsNamedCame : Name → Came → Type 0
IsNamedCame z (Record r owner) = owner ≡ z
IsNamedCame z (Moved r owner new) = owner ≡ z
IsNamedCame z _ = Unit {0}

abbrev pub IsNamedJobCase : Name → JobCase → Type 0
IsNamedJobCase z (Ask it next) = IsNamedCame z it
IsNamedJobCase z _ = Unit {0}

abbrev pub IsNamedTurn : Name → TurnCase → Type 0
IsNamedTurn z (GoOn c) = IsNamedJobCase z c
IsNamedTurn z _ = Unit {0}

-- a record with another zonepath takes its number from the grant, from 1 on
abbrev pub IsMoved : Came → Type 0
IsMoved (Moved r owner new) = Unit {0}
IsMoved _ = ⊥

abbrev pub IsNumberedCame : Came → Grant → Type 0
IsNumberedCame it g = IfOk (decisions.number_in g) (λ n. IsMoved it → 1 ≤ n)

abbrev pub IsNumberedJobCase : JobCase → Grant → Type 0
IsNumberedJobCase (Ask it next) g = IsNumberedCame it g
IsNumberedJobCase _ g = Unit {0}

abbrev pub IsNumberedTurn : TurnCase → Grant → Type 0
IsNumberedTurn (GoOn c) g = IsNumberedJobCase c g
IsNumberedTurn _ g = Unit {0}

-- what a case does to the zone's objects, whatever is granted
abbrev pub job_objects : JobCase → ObjectEdit
job_objects (Pass p) = p.objects
job_objects (Unmounts dir next) = UnmountLast dir
job_objects (Releases claim next) = ReleaseLast claim
job_objects (Undo objects) = objects
job_objects _ = Nothing

abbrev pub turn_objects : TurnCase → ObjectEdit
turn_objects (GoOn c) = job_objects c
turn_objects _ = Nothing

-- what an edit takes for granted: a mount comes only where it may, by mount(2), and what goes as the last is the last
pub data Premise : Type 0 where
  No_premise : Premise
  May_mount : (dir : List ℕ) → Premise
  Is_last_mount : (dir : List ℕ) → Premise
  Is_last_claim : claims.Claim → Premise

abbrev pub premise_of : ObjectEdit → Premise
premise_of (Mount m) = May_mount m.value.dir
premise_of (UnmountLast dir) = Is_last_mount dir.value
premise_of (ReleaseLast claim) = Is_last_claim claim.value
premise_of _ = No_premise

abbrev pub Holds : Premise → List MountEntry → List claims.Claim → Type 0
Holds No_premise ms cs = Unit {0}
Holds (May_mount dir) ms cs = mount_answer dir ms ≡ Ok tt
Holds (Is_last_mount dir) ms cs = option_map (λ m. m.mount.dir) (last_of ms) ≡ Some dir
Holds (Is_last_claim claim) ms cs = last_of cs ≡ Some claim

-- the edit may be made of these mounts and claims
abbrev pub IsFreeFor : ObjectEdit → List MountEntry → List claims.Claim → Type 0
IsFreeFor e ms cs = Holds (premise_of e) ms cs

-- the zone's state on its desk after a turn
abbrev pub job_active : JobCase → Option ZoneState → Option ZoneState
job_active (Pass p) active = active_with p.shown active
job_active _ active = active

abbrev pub turn_active : TurnCase → Option ZoneState → Option ZoneState
turn_active (GoOn c) active = job_active c active
turn_active _ active = active

-- the change of which the brand of the request under way is asked next, if it is
abbrev pub hook_of : desks.Job → Next → Option (Option ℕ × Change)
hook_of j (A_step (step.Hook change) rest) = Some (j.brand, change)
hook_of j _ = None

abbrev pub stage_hook : objects.Objects → desks.Job → Stage → Option (Option ℕ × Change)
stage_hook o j (Goes left) = hook_of j (next o left)
stage_hook o j (Fails outcome undo) = None

abbrev pub next_hook : objects.Objects → Option desks.Job → Option (Option ℕ × Change)
next_hook o None = None
next_hook o (Some j) = stage_hook o j j.stage

-- what the brand answers; where it isn't asked that the change proceeds
abbrev pub heard : List Tabled → Option (Option ℕ × Change) → HookAnswer
heard brands None = Proceed
heard brands (Some asked) = answer_of brands asked.0 asked.1

abbrev pub next_answer : List Tabled → objects.Objects → desks.Desk → HookAnswer
next_answer brands o d = heard brands (next_hook o d.job)
