-- What a turn of a zone's daemon does: from the zone's desk and objects, what is stored of it, and what it finds on the system.
use Rattle.std.specs.Prelude.{ℕ, List, [], ◌∷◌, Option, Some, None, true, false, bytes_eq, codes, is_ok, length, Result, Ok, Err, if◌then◌else◌}
use Rattle.brand_hooks.specs.Brands.{Tabled, answer_of, place_of}
use Rattle.brand_hooks.specs.declared.change.Change.{Change}
use Rattle.brand_hooks.specs.declared.table.HookAnswer.{HookAnswer}
use Rattle.brand_hooks.specs.declared.table.HookAnswer.TheVariants.{Proceed, Refuse}
use Rattle.commit_journal.specs.declared.records.Record.{Record}
use Rattle.config_terms.specs.Fields.{path_text}
use Rattle.config_terms.specs.declared.fault.ConfigFault.{ConfigFault}
use Rattle.config_terms.specs.declared.fault.ConfigFault.TheVariants as config_faults
use Rattle.datalink_table.specs.Claims.{pool_of}
use Rattle.datalink_table.specs.declared.claims.Claim.{Claim}
use Rattle.kernel_objects.specs.Kernel.{cleared, entered, new_id, with_bootargs}
use Rattle.kernel_objects.specs.Processes.{Process, count_of}
use Rattle.loopback_mounts.specs.Mounts.{before, is_at, is_held, last_of, mount_answer, mount_at}
use Rattle.loopback_mounts.specs.declared.mount.Mount.{Mount}
use Rattle.loopback_mounts.specs.declared.mount.MountEntry.{MountEntry}
use Rattle.zn_base.specs.declared.state.ZoneState.{ZoneState}
use Rattle.zn_base.specs.declared.state.ZoneState.TheVariants.{Installed}
use Rattle.zone_config.specs.declared.terms.Contents.{Contents}
use Rattle.zone_pools.specs.Asked.{A_path, A_pid, A_source, A_zid, An_item, Asked}
use Rattle.zone_pools.specs.Decisions as decisions
use Rattle.zone_pools.specs.Decisions.{Ask, Just}
use Rattle.zone_pools.specs.Firsts.{is_nil}
use Rattle.zone_pools.specs.Owned_lists.{Go, Put}
use Rattle.zoneadmd_steps.specs.Arrivals.{A_claim, A_process, A_record, An_id, Comes, No_thing, record_asked}
use Rattle.zoneadmd_steps.specs.Configs.{devices_by, fs_mount, limits_by, moved_record, root_dir, root_mount, with_zonepath}
use Rattle.zoneadmd_steps.specs.Desks.{Desk, Fails, Goes, Job, Progress, Stage, next_place, state_now}
use Rattle.zoneadmd_steps.specs.Objects.{Devices_are, Ids_change, Ids_go, Last_claim_goes, Object_edit, Objects, Of_mounts, Processes_go, all_of, kernel_of, zid_of}
use Rattle.zoneadmd_steps.specs.Plans.{kept_of, kind_of, made_after, plan, refusal}
use Rattle.zoneadmd_steps.specs.declared.requests.Outcome.{Outcome}
use Rattle.zoneadmd_steps.specs.declared.requests.Outcome.TheVariants.{Done, Denied, HookRefused, TooLarge}
use Rattle.zoneadmd_steps.specs.declared.requests.Request.{Request}
use Rattle.zoneadmd_steps.specs.declared.requests.Request.TheVariants as request
use Rattle.zoneadmd_steps.specs.declared.requests.Step.{Step}
use Rattle.zoneadmd_steps.specs.declared.requests.Step.TheVariants.{Hook, Record as Record_step, Moved, Copy, Erase, Source, Zid, Limits, Devices, Root, Mounted, Claimed, State as State_step, Init, Kill, Unmount, Release, Clear, ZidBack}
use Rattle.zoneadmd_steps.specs.declared.requests.TurnReply.{TurnReply}
use Rattle.zoneadmd_steps.specs.declared.requests.TurnReply.TheVariants.{Idle, Began, Stepped, Failed, Undone, Finished, Stuck}

-- a zone as its daemon finds it: its desk and its objects, what is stored of it, and, of the system, which devices are declared
-- and which brands there are
pub record Seen : Type 0 where
  pub desk : Desk
  pub objects : Objects
  pub stored : Option Record
  pub declared : List (List ℕ)
  pub brands : List Tabled

-- what a turn does to the zone's objects, how it leaves the desk, the ticket that ended, and what it reports
pub record Turned : Type 0 where
  pub objects : List Object_edit
  pub desk : Desk
  pub ended : Option ℕ
  pub reply : TurnReply

abbrev pub Turn_decision : Type 0
Turn_decision = decisions.Decision Comes Turned

-- the desk changes, and the objects perhaps, and no request ends
abbrev pub reports : List Object_edit → Desk → TurnReply → Turned
reports edits d reply = record { objects = edits; desk = d; ended = None; reply = reply }

-- no request waits or is under way
abbrev pub rests : Desk → Turned
rests d = reports [] d Idle

-- the next unmount is of a mount that the global zone holds, by umount2(2) EBUSY: nothing changes
abbrev pub stuck : Desk → Turned
stuck d = reports [] d Stuck

-- a request ends, and whoever waits for its ticket is to learn it
abbrev pub finish : Desk → ℕ → Outcome → Turned
finish d t outcome = record { objects = []; desk = record d { job = None }; ended = Some t; reply = Finished t outcome }

abbrev pub with_job : Desk → Job → Desk
with_job d j = record d { job = Some j }

abbrev pub no_progress : Progress
no_progress = record { place = 1; made = [] }

abbrev pub with_step : Step → Progress → Progress
with_step s p = record { place = next_place p.place; made = made_after s p.made }

-- a step is done, with what it does to the objects, and these steps are left
abbrev pub advance : Desk → Job → List Step → List Object_edit → Step → Turned
advance d j left edits shown = reports edits (with_job d (record j { done = with_step shown j.done; stage = Goes left })) (Stepped shown)

-- a step failed, and the request will end so, once what is to be undone is undone
abbrev pub failed : Desk → Job → Outcome → Turned
failed d j outcome =
    reports [] (with_job d (record j { done = record j.done { made = [] }; stage = Fails outcome j.done.made })) (Failed j.done.place outcome)

-- a step that asks pools for what comes
abbrev pub asking : Desk → Job → List Step → Comes → List Asked → List Object_edit → (ℕ → Step) → Turn_decision
asking d j rest c asked edits shown = Ask c asked (λ pool. failed d j (Denied pool)) (λ n. advance d j rest edits (shown n))

-- what is next: a step, or one of the mounts or claims that a step of the plan stands for, the last one first; where there is
-- none of them the plan goes on
pub data Next : Type 0 where
  Nothing_left : Next
  A_step : Step → (rest : List Step) → Next
  A_mount : MountEntry → (left : List Step) → Next
  A_claim_left : Claim → (left : List Step) → Next

abbrev pub mount_or : List Step → Next → Option MountEntry → Next
mount_or left other None = other
mount_or left other (Some m) = A_mount m left

abbrev pub claim_or : List Step → Next → Option Claim → Next
claim_or left other None = other
claim_or left other (Some c) = A_claim_left c left

abbrev pub next : Objects → List Step → Next
next o [] = Nothing_left
next o (Unmount dir ∷ rest) = mount_or (Unmount dir ∷ rest) (next o rest) (last_of o.mounts)
next o (Release c ∷ rest) = claim_or (Release c ∷ rest) (next o rest) (last_of o.claims)
next o (s ∷ rest) = A_step s rest

-- the brand is asked by its hook
abbrev pub hooked : Desk → Job → List Step → Change → HookAnswer → Turned
hooked d j rest change Proceed = advance d j rest [] (Hook change)
hooked d j rest change (Refuse code) = failed d j (HookRefused code)

-- by mount(2): a mount comes to its place among the others, and is free. In a legal history nothing stands where a zone's own file
-- systems are mounted
abbrev pub mounting : Mount → List MountEntry → List Object_edit
mounting m ms = if is_ok (mount_answer m.dir ms) then Of_mounts (Put (before m.dir) (record { mount = m; held = false })) ∷ [] else []

-- the steps that ask for nothing, and neither look at what zones share nor change it
abbrev pub local_step : List Tabled → Objects → Desk → Job → List Step → Step → Option Turned
local_step brands o d j rest (Hook change) = Some (hooked d j rest change (answer_of brands j.brand change))
local_step brands o d j rest (Copy k) = Some (advance d j rest [] (Copy k))
local_step brands o d j rest (Erase k) = Some (advance d j rest [] (Erase k))
local_step brands o d j rest Limits = Some (advance d j rest (Ids_change (limits_by j.config) ∷ []) Limits)
local_step brands o d j rest Root = Some (advance d j rest (mounting (root_mount j.config) o.mounts) Root)
local_step brands o d j rest (Mounted dir) = Some (advance d j rest (mounting (fs_mount j.config dir) o.mounts) (Mounted dir))
local_step brands o d j rest s = None

-- by zoneadm(8) and umount2(2): the last mount goes unless it is held, and the plan stays where it is
abbrev pub unmount_last : Desk → Job → List Step → MountEntry → Turned
unmount_last d j left m = if m.held then stuck d else advance d j left (Of_mounts (Go (is_at m.mount.dir)) ∷ []) (Unmount (Some m.mount.dir))

abbrev pub local_next : List Tabled → Objects → Desk → Job → Next → Option Turned
local_next brands o d j Nothing_left = None
local_next brands o d j (A_step s rest) = local_step brands o d j rest s
local_next brands o d j (A_mount m left) = Some (unmount_last d j left m)
local_next brands o d j (A_claim_left c left) = None

-- one step back
abbrev pub undone : Desk → Job → Outcome → List Step → List Object_edit → Step → Turned
undone d j outcome rest edits shown = reports edits (with_job d (record j { stage = Fails outcome rest })) (Undone shown)

abbrev pub undo_mount : Objects → Desk → Job → Outcome → List Step → List ℕ → Step → Turned
undo_mount o d j outcome rest dir shown =
    if is_held (mount_at dir o.mounts) then stuck d else undone d j outcome rest (Of_mounts (Go (is_at dir)) ∷ []) shown

abbrev pub local_undo : Objects → Desk → Job → Outcome → List Step → Step → Option Turned
local_undo o d j outcome rest Limits = Some (undone d j outcome rest (Ids_change cleared ∷ []) Limits)
local_undo o d j outcome rest (Devices n) = Some (undone d j outcome rest (Devices_are [] ∷ []) (Devices n))
local_undo o d j outcome rest Root = Some (undo_mount o d j outcome rest root_dir Root)
local_undo o d j outcome rest (Mounted dir) = Some (undo_mount o d j outcome rest dir (Mounted dir))
local_undo o d j outcome rest s = None

abbrev pub local_stage : List Tabled → Objects → Desk → Job → Stage → Option Turned
local_stage brands o d j (Goes left) = local_next brands o d j (next o left)
local_stage brands o d j (Fails outcome []) = None
local_stage brands o d j (Fails outcome (s ∷ rest)) = local_undo o d j outcome rest s

abbrev pub local_job : List Tabled → Objects → Desk → Option Job → Option Turned
local_job brands o d None = None
local_job brands o d (Some j) = local_stage brands o d j j.stage

-- the next turn, where it is local: by the zone's desk and objects and the brands alone
unfoldable pub local_turn : List Tabled → Objects → Desk → Option Turned
local_turn brands o d = local_job brands o d d.job

-- a zone that isn't stored has no work
abbrev pub nothing_done : Desk → Turn_decision
nothing_done d = Just (rests d)

abbrev pub record_state : Desk → Job → List Step → ZoneState → Option Record → Turn_decision
record_state d j rest s None = nothing_done d
record_state d j rest s (Some row) = asking d j rest (A_record (λ n. Some (record row { state = s }))) (record_asked (λ n. Some (record row { state = s })) ∷ []) [] (λ n. Record_step s)

abbrev pub new_path : Request → List ℕ
new_path (request.Move path) = path
new_path r = []

-- a path that is the zone's own already is asked of no pool
abbrev pub path_asked : List ℕ → Contents → (serial : Asked) → List Asked
path_asked path c serial = if bytes_eq path (path_text c.zonepath) then serial ∷ [] else A_path path ∷ serial ∷ []

-- a path other than `/` fails for the length of the export text alone
abbrev pub size_in : ConfigFault → ℕ
size_in (config_faults.TooLarge size) = size
size_in fault = 0

abbrev pub record_config : Desk → Job → List Step → List ℕ → Record → Result Contents ConfigFault → Turn_decision
record_config d j rest path row (Err fault) = Just (failed d j (TooLarge (size_in fault)))
record_config d j rest path row (Ok config) =
    asking d j rest (A_record (λ n. Some (moved_record config row n))) (path_asked path row.config (record_asked (λ n. Some (moved_record config row n)))) [] (λ n. Moved)

abbrev pub record_moved : Desk → Job → List Step → List ℕ → Option Record → Turn_decision
record_moved d j rest path None = nothing_done d
record_moved d j rest path (Some row) = record_config d j rest path row (with_zonepath path row.config)

-- the zone's new state, which is on the desk where it is none of the stored ones
abbrev pub active_after : ZoneState → Option ZoneState
active_after Installed = None
active_after s = Some s

-- the first process, which has the zone's limit set
abbrev pub init_process : Objects → Process
init_process o = entered (kernel_of o) (codes "init") true 0

-- the arguments of a boot, else those of the configuration
abbrev pub args_or : List ℕ → Contents → List ℕ
args_or args c = if is_nil args then c.bootargs else args

abbrev pub bootargs_of : Request → Contents → List ℕ
bootargs_of (request.Boot args) c = args_or args c
bootargs_of r c = c.bootargs

-- the steps that aren't local
abbrev pub shared_step : Seen → Job → List Step → Step → Turn_decision
shared_step v j rest (Record_step s) = record_state v.desk j rest s v.stored
shared_step v j rest Moved = record_moved v.desk j rest (new_path j.request) v.stored
shared_step v j rest (Source z) = asking v.desk j rest No_thing (A_source z ∷ []) [] (λ n. Source z)
shared_step v j rest (Zid o) = asking v.desk j rest (An_id (new_id 0)) (A_zid ∷ []) [] (λ n. Zid (Some n))
shared_step v j rest (Devices o) =
    let ds = devices_by j.config v.declared in
    Just (advance v.desk j rest (Devices_are ds ∷ []) (Devices (Some (length ds))))
shared_step v j rest (Claimed c) = asking v.desk j rest (A_claim c) (An_item (pool_of c.kind) c.item ∷ []) [] (λ n. Claimed c)
shared_step v j rest (State_step s) = Just (advance (record v.desk { active = active_after s }) j rest [] (State_step s))
shared_step v j rest (Init o) =
    asking v.desk j rest (A_process (init_process v.objects)) (A_pid ∷ []) (Ids_change (with_bootargs (bootargs_of j.request j.config)) ∷ []) (λ n. Init (Some n))
shared_step v j rest (Kill o) = Just (advance v.desk j rest (Processes_go all_of ∷ []) (Kill (Some (count_of v.objects.processes))))
shared_step v j rest Clear = Just (advance v.desk j rest (Ids_change cleared ∷ Devices_are [] ∷ []) Clear)
shared_step v j rest (ZidBack o) = Just (advance v.desk j rest (Ids_go all_of ∷ []) (ZidBack (zid_of v.objects.ids)))
shared_step v j rest s = Just (advance v.desk j rest [] s)

-- a request begins, or ends at once
abbrev pub started : List Tabled → Desk → ℕ → Request → ZoneState → Record → Option Outcome → Turned
started brands d t r s row None =
    reports [] (with_job d (record { ticket = t; request = r; brand = place_of row.config.brand brands; config = kept_of r row.config; done = no_progress; stage = Goes (plan r s row.config) }))
    (Began t (kind_of r))
started brands d t r s row (Some outcome) = finish d t outcome

abbrev pub begin : List Tabled → Desk → ℕ → Request → Record → Turned
begin brands d t r row = let s = state_now row d in started brands d t r s row (refusal brands (kind_of r) s row.config)

-- a plan is over: a reboot goes on as a boot, and any other request ends
abbrev pub over : List Tabled → Desk → Job → Option Record → Request → Turn_decision
over brands d j (Some row) (request.Reboot args) = Just (begin brands d j.ticket (request.Boot args) row)
over brands d j stored r = Just (finish d j.ticket Done)

abbrev pub shared_next : Seen → Job → Next → Turn_decision
shared_next v j Nothing_left = over v.brands v.desk j v.stored j.request
shared_next v j (A_step s rest) = shared_step v j rest s
shared_next v j (A_mount m left) = nothing_done v.desk
shared_next v j (A_claim_left c left) = Just (advance v.desk j left (Last_claim_goes ∷ []) (Release (Some c)))

abbrev pub undo_edits : Step → List Object_edit
undo_edits (Zid n) = Ids_go all_of ∷ []
undo_edits (Claimed c) = Last_claim_goes ∷ []
undo_edits s = []

abbrev pub shared_stage : Seen → Job → Stage → Turn_decision
shared_stage v j (Goes left) = shared_next v j (next v.objects left)
shared_stage v j (Fails outcome []) = Just (finish v.desk j.ticket outcome)
shared_stage v j (Fails outcome (s ∷ rest)) = Just (undone v.desk j outcome rest (undo_edits s) s)

-- where none is under way, the next request begins
abbrev pub next_request : List Tabled → Desk → List (ℕ × Request) → Option Record → Turn_decision
next_request brands d (r ∷ rs) (Some row) = Just (begin brands (record d { waiting = rs }) r.0 r.1 row)
next_request brands d rs stored = nothing_done d

abbrev pub shared_turn : Seen → Option Job → Turn_decision
shared_turn v None = next_request v.brands v.desk v.desk.waiting v.stored
shared_turn v (Some j) = shared_stage v j j.stage

abbrev pub or_shared : Turn_decision → Option Turned → Turn_decision
or_shared shared None = shared
or_shared shared (Some t) = Just t

-- a turn that is local, else one that isn't
unfoldable pub turn : Seen → Turn_decision
turn v = or_shared (shared_turn v v.desk.job) (local_turn v.brands v.objects v.desk)
