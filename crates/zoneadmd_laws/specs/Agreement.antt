-- What a zone's tables have at each moment of its requests: the agreement of tables and daemon.
use Rattle.commit_journal.specs.declared.records.Record.{Record}
use Rattle.datalink_table.specs.Claims.{same_claim}
use Rattle.datalink_table.specs.declared.claims.Claim.{Claim}
use Rattle.kernel_objects.specs.declared.objects.Id.{Id}
use Rattle.loopback_mounts.specs.Mounts.{mounted, with_hold}
use Rattle.loopback_mounts.specs.declared.limits.TheConstants.{MOUNTS_MAX}
use Rattle.loopback_mounts.specs.declared.mount.MountEntry.{MountEntry}
use Rattle.std.specs.List.{list_all}
use Rattle.std.specs.Prelude.{zero, ◌≡◌, ◌≤◌, ◌+◌, ℕ, suc, length, List, [], ◌∷◌, ◌++◌, map, Bool, true, false, is_some, Option, Some, None, bytes_eq}
use Rattle.zn_base.specs.States.{is_stored}
use Rattle.zn_base.specs.declared.state.ZoneState.TheVariants.{Configured, Incomplete, Installed, Ready as Is_ready, Running as Is_running, ShuttingDown, Down}
use Rattle.zn_base.specs.declared.state.ZoneState.{ZoneState}
use Rattle.zone_config.specs.Sound.{HasSoundResources}
use Rattle.zone_config.specs.declared.terms.Contents.{Contents}
use Rattle.zoneadmd_laws.specs.Lists.{all_differ}
use Rattle.zoneadmd_steps.specs.Configs.{devices_by, fs_mount, most_processes, root_dir, root_mount}
use Rattle.zoneadmd_steps.specs.Desks.{Fails, Goes, Job, Stage}
use Rattle.zoneadmd_steps.specs.Objects.{Objects}
use Rattle.zoneadmd_steps.specs.Turns.{Seen}
use Rattle.zoneadmd_steps.specs.declared.requests.Step.TheVariants.{Hook, Record as Record_step, Moved, Copy, Erase, Source, Zid, Limits, Devices, Root, Mounted, Claimed, State as State_step, Init, Kill, Unmount, Release, Clear, ZidBack}
use Rattle.zoneadmd_steps.specs.declared.requests.Step.{Step}

-- how far a zone is up: off; before its ready part, or within it; ready; its first process started; running; stopping; and what
-- is gone then: processes, mounts, claims, devices, the id
pub data Phase : Type 0 where
  Off : Phase
  Ahead : Phase
  Making : Phase
  Ready : Phase
  Started : Phase
  Running : Phase
  Stopping : Phase
  Killed : Phase
  Unmounted : Phase
  Released : Phase
  Cleared : Phase
  Idless : Phase

-- the phase after a step, where the step may come in a phase
abbrev pub phase_after : Phase → Step → Option Phase
phase_after Off (Hook c) = Some Off
phase_after Off (Record_step Configured) = Some Off
phase_after Off (Record_step Incomplete) = Some Off
phase_after Off (Record_step Installed) = Some Off
phase_after Off Moved = Some Off
phase_after Off (Copy k) = Some Off
phase_after Off (Erase k) = Some Off
phase_after Off (Source z) = Some Off
phase_after Ahead (Hook c) = Some Ahead
phase_after Ahead (Zid n) = Some Making
phase_after Making Limits = Some Making
phase_after Making (Devices n) = Some Making
phase_after Making Root = Some Making
phase_after Making (Mounted d) = Some Making
phase_after Making (Claimed c) = Some Making
phase_after Making (State_step Is_ready) = Some Ready
phase_after Ready (Hook c) = Some Ready
phase_after Ready (Init n) = Some Started
phase_after Ready (State_step ShuttingDown) = Some Stopping
phase_after Started (State_step Is_running) = Some Running
phase_after Running (Hook c) = Some Running
phase_after Running (State_step ShuttingDown) = Some Stopping
phase_after Stopping (Kill n) = Some Killed
phase_after Killed (Unmount d) = Some Unmounted
phase_after Unmounted (Release c) = Some Released
phase_after Released Clear = Some Cleared
phase_after Cleared (State_step Down) = Some Cleared
phase_after Cleared (ZidBack n) = Some Idless
phase_after Idless (State_step Installed) = Some Off
phase_after _ _ = None

-- the phases in which a request may end
abbrev pub may_rest : Phase → Bool
may_rest Off = true
may_rest Ready = true
may_rest Running = true
may_rest _ = false

abbrev pub is_making : Phase → Bool
is_making Making = true
is_making _ = false

-- whether a plan goes from a phase to its end
abbrev pub walks : Option Phase → List Step → Bool
walks None left = false
walks (Some p) [] = may_rest p
walks (Some p) (s ∷ rest) = walks (phase_after p s) rest

abbrev pub is_state_installed : ZoneState → Bool
is_state_installed Installed = true
is_state_installed s = false

abbrev pub is_installed : Option Record → Bool
is_installed None = false
is_installed (Some row) = is_state_installed row.state

-- what the steps of a ready part made, the latest first: the mounts, by mount(2), the claims, and the devices
abbrev pub made_mounts : Contents → List Step → List MountEntry
made_mounts c [] = []
made_mounts c (Root ∷ made) = mounted (root_mount c) (made_mounts c made)
made_mounts c (Mounted d ∷ made) = mounted (fs_mount c d) (made_mounts c made)
made_mounts c (s ∷ made) = made_mounts c made

abbrev pub made_claims : List Step → List Claim
made_claims [] = []
made_claims (Claimed c ∷ made) = made_claims made ++ c ∷ []
made_claims (s ∷ made) = made_claims made

abbrev pub made_devices : Contents → (declared : List (List ℕ)) → List Step → List (List ℕ)
made_devices c declared [] = []
made_devices c declared (Devices n ∷ made) = devices_by c declared
made_devices c declared (s ∷ made) = made_devices c declared made

-- where steps mount, what they claim, and how often they set devices
abbrev pub dirs_by : List Step → List (List ℕ)
dirs_by [] = []
dirs_by (Root ∷ steps) = root_dir ∷ dirs_by steps
dirs_by (Mounted d ∷ steps) = d ∷ dirs_by steps
dirs_by (s ∷ steps) = dirs_by steps

abbrev pub claims_by : List Step → List Claim
claims_by [] = []
claims_by (Claimed c ∷ steps) = c ∷ claims_by steps
claims_by (s ∷ steps) = claims_by steps

abbrev pub settings_by : List Step → ℕ
settings_by [] = 0
settings_by (Devices n ∷ steps) = suc (settings_by steps)
settings_by (s ∷ steps) = settings_by steps

-- steps that make a zone ready, one after others: no directory and no claim comes twice, they are no more than a zone may have
-- mounts, and devices are set once at most
pub record Are_fit (ds : List (List ℕ)) (cs : List Claim) (settings : ℕ) : Type 0 where
  pub dirs : all_differ bytes_eq ds ≡ true
  pub few : length ds ≤ MOUNTS_MAX
  pub claims : all_differ same_claim cs ≡ true
  pub devices : settings ≤ 1

abbrev pub Fit : (left made : List Step) → Type 0
Fit left made = Are_fit (dirs_by left ++ dirs_by made) (claims_by left ++ claims_by made) (settings_by left + settings_by made)

-- steps of a ready part, the latest first: the id came first
abbrev pub is_made : List Step → Bool
is_made [] = false
is_made (Zid n ∷ []) = true
is_made (Limits ∷ made) = is_made made
is_made (Devices n ∷ made) = is_made made
is_made (Root ∷ made) = is_made made
is_made (Mounted d ∷ made) = is_made made
is_made (Claimed c ∷ made) = is_made made
is_made _ = false

abbrev pub is_one : {A : Type 0} → List A → Bool
is_one (x ∷ []) = true
is_one _ = false

-- a zone without an id has nothing
pub record Has_nothing (o : Objects) : Type 0 where
  pub ids : o.ids ≡ []
  pub processes : o.processes ≡ []
  pub mounts : o.mounts ≡ []
  pub claims : o.claims ≡ []
  pub devices : o.devices ≡ []

-- what a zone has whose ready part is under way, or is undone: what the steps done and not undone made, with the devices that fit
-- of those that were declared then
pub record Made (made left : List Step) (c : Contents) (active : Option ZoneState) (row : Option Record) (o : Objects) : Type 0 where
  pub steps : is_made made ≡ true
  pub inactive : active ≡ None
  pub installed : is_installed row ≡ true
  pub id : is_one o.ids ≡ true
  pub processes : o.processes ≡ []
  pub mounts : map (with_hold false) o.mounts ≡ made_mounts c made
  pub claims : o.claims ≡ made_claims made
  pub declared : List (List ℕ)
  pub devices : o.devices ≡ made_devices c declared made
  pub fit : Fit left made

abbrev pub Has_made : (made left : List Step) → Contents → Seen → Type 0
Has_made made left c w = Made made left c w.desk.active w.stored w.objects

-- a zone that is up
abbrev pub Is_up : Seen → Type 0
Is_up w = (is_installed w.stored ≡ true) × (is_one w.objects.ids ≡ true) × (is_some w.desk.active ≡ true)

-- what stands in a phase
abbrev pub Stands : Phase → (made left : List Step) → Contents → Seen → Type 0
Stands Off made left c w = Has_nothing w.objects × (w.desk.active ≡ None)
Stands Ahead made left c w = Has_nothing w.objects × (w.desk.active ≡ None) × (is_installed w.stored ≡ true) × Fit left []
Stands Making made left c w = Has_made made left c w
Stands Ready made left c w = Is_up w × (w.desk.active ≡ Some Is_ready) × (w.objects.processes ≡ [])
Stands Started made left c w = Is_up w
Stands Running made left c w = Is_up w × (w.desk.active ≡ Some Is_running)
Stands Stopping made left c w = Is_up w
Stands Killed made left c w = Is_up w × (w.objects.processes ≡ [])
Stands Unmounted made left c w = Is_up w × (w.objects.processes ≡ []) × (w.objects.mounts ≡ [])
Stands Released made left c w = Is_up w × (w.objects.processes ≡ []) × (w.objects.mounts ≡ []) × (w.objects.claims ≡ [])
Stands Cleared made left c w = Is_up w × (w.objects.processes ≡ []) × (w.objects.mounts ≡ []) × (w.objects.claims ≡ []) × (w.objects.devices ≡ [])
Stands Idless made left c w = Has_nothing w.objects × (is_some w.desk.active ≡ true) × (is_installed w.stored ≡ true)

-- a zone with no request under way is off, ready or running
abbrev pub Rests : Seen → Option ZoneState → Type 0
Rests w None = Has_nothing w.objects
Rests w (Some Is_ready) = Is_up w × (w.objects.processes ≡ [])
Rests w (Some Is_running) = Is_up w
Rests w (Some s) = ⊥

abbrev pub Undoes : List Step → Contents → Seen → Type 0
Undoes [] c w = Rests w w.desk.active
Undoes (s ∷ undo) c w = Has_made (s ∷ undo) [] c w

abbrev pub At_stage : Seen → Job → Stage → Type 0
At_stage w j (Goes left) = (p : Phase) × (walks (Some p) left ≡ true) × Stands p j.done.made left j.config w × (is_making p ≡ false → j.done.made ≡ [])
At_stage w j (Fails o undo) = Undoes undo j.config w

abbrev pub At_job : Seen → Option Job → Type 0
At_job w None = Rests w w.desk.active
At_job w (Some j) = At_stage w j j.stage

-- a store keeps no state but configured, incomplete and installed, and sound resources
abbrev pub Is_kept : Option Record → Type 0
Is_kept None = Unit {0}
Is_kept (Some row) = (is_stored row.state ≡ true) × HasSoundResources row.config

-- a zone's tables agree with its daemon
abbrev pub Agrees : Seen → Type 0
Agrees w = At_job w w.desk.job × Is_kept w.stored

-- a limit of processes isn't 0: of the id, of the configuration of the request under way, and of the one that is stored
abbrev pub has_room : Option ℕ → Bool
has_room (Some zero) = false
has_room n = true

abbrev pub ids_have_room : List Id → Bool
ids_have_room is = list_all (λ i. has_room i.most) is

abbrev pub job_has_room : Option Job → Bool
job_has_room None = true
job_has_room (Some j) = has_room (most_processes j.config.rctl)

abbrev pub row_has_room : Option Record → Bool
row_has_room None = true
row_has_room (Some row) = has_room (most_processes row.config.rctl)

abbrev pub Has_room : Seen → Type 0
Has_room w = (ids_have_room w.objects.ids ≡ true) × (job_has_room w.desk.job ≡ true) × (row_has_room w.stored ≡ true)
