-- The requests of zoneadm(8): in which states each begins, what is checked then, and the steps of its plan.
use Rattle.std.specs.Prelude.{ℕ, List, [], ◌∷◌, ◌++◌, map, Bool, true, false, Option, Some, None, Result, Ok, Err, if◌then◌else◌}
use Rattle.brand_hooks.specs.Brands.{Tabled, tabled_names}
use Rattle.brand_hooks.specs.declared.change.ChangeKind.{ChangeKind}
use Rattle.brand_hooks.specs.declared.change.ChangeKind.TheVariants as change
use Rattle.config_verify.specs.Flaws.{first, flaws}
use Rattle.config_verify.specs.declared.flaw.Flaw.{Flaw}
use Rattle.priv_sets.specs.Limit.{limit_of}
use Rattle.priv_sets.specs.declared.limit.PrivFault.{PrivFault}
use Rattle.zn_base.specs.States.{is_stored}
use Rattle.zn_base.specs.declared.state.ZoneState.{ZoneState}
use Rattle.zn_base.specs.declared.state.ZoneState.TheVariants.{Configured, Incomplete, Installed, Ready, Running, ShuttingDown, Down}
use Rattle.zone_config.specs.Property.{blank}
use Rattle.zone_config.specs.declared.terms.Contents.{Contents}
use Rattle.zone_pools.specs.Pools.{or_else}
use Rattle.zoneadmd_steps.specs.Configs.{claims_of, fs_dirs}
use Rattle.zoneadmd_steps.specs.declared.requests.Outcome.{Outcome}
use Rattle.zoneadmd_steps.specs.declared.requests.Outcome.TheVariants.{NotVerified, Privilege, WrongState}
use Rattle.zoneadmd_steps.specs.declared.requests.Request.{Request}
use Rattle.zoneadmd_steps.specs.declared.requests.Request.TheVariants as request
use Rattle.zoneadmd_steps.specs.declared.requests.RequestKind.{RequestKind}
use Rattle.zoneadmd_steps.specs.declared.requests.RequestKind.TheVariants as kind
use Rattle.zoneadmd_steps.specs.declared.requests.Step.{Step}
use Rattle.zoneadmd_steps.specs.declared.requests.Step.TheVariants.{Hook, Record, Moved, Copy, Erase, Source, Zid, Limits, Devices, Root, Mounted, Claimed, State, Init, Kill, Unmount, Release, Clear, ZidBack}

-- what is asked, without its contents
abbrev pub kind_of : Request → RequestKind
kind_of request.Install = kind.Install
kind_of request.Uninstall = kind.Uninstall
kind_of (request.Clone source) = kind.Clone
kind_of request.Attach = kind.Attach
kind_of request.Detach = kind.Detach
kind_of request.Mark = kind.Mark
kind_of (request.Move path) = kind.Move
kind_of request.Ready = kind.Ready
kind_of (request.Boot args) = kind.Boot
kind_of request.Halt = kind.Halt
kind_of (request.Reboot args) = kind.Reboot

-- the states in which a request begins
abbrev pub may_begin : RequestKind → ZoneState → Bool
may_begin kind.Install Configured = true
may_begin kind.Clone Configured = true
may_begin kind.Attach Configured = true
may_begin kind.Detach Installed = true
may_begin kind.Uninstall Installed = true
may_begin kind.Uninstall Incomplete = true
may_begin kind.Mark Installed = true
may_begin kind.Move Installed = true
may_begin kind.Ready Installed = true
may_begin kind.Boot Installed = true
may_begin kind.Boot Ready = true
may_begin kind.Halt Ready = true
may_begin kind.Halt Running = true
may_begin kind.Reboot Ready = true
may_begin kind.Reboot Running = true
may_begin _ _ = false

-- whether the configuration is verified before it begins, and whether its limit set is looked at
abbrev pub is_verified : RequestKind → ZoneState → Bool
is_verified kind.Install s = true
is_verified kind.Clone s = true
is_verified kind.Attach s = true
is_verified kind.Ready s = true
is_verified kind.Boot Installed = true
is_verified _ _ = false

abbrev pub is_limited : RequestKind → ZoneState → Bool
is_limited kind.Ready s = true
is_limited kind.Boot Installed = true
is_limited _ _ = false

abbrev pub unverified : Result (Unit {0}) Flaw → Option Outcome
unverified (Ok fine) = None
unverified (Err flaw) = Some (NotVerified flaw)

abbrev pub unlimited : Result (List ℕ) PrivFault → Option Outcome
unlimited (Ok set) = None
unlimited (Err fault) = Some (Privilege fault)

-- why a request doesn't begin: its state, else the configuration's first flaw, else the fault of its limit set
abbrev pub refusal : List Tabled → RequestKind → ZoneState → Contents → Option Outcome
refusal brands k s c =
    if may_begin k s
    then or_else
    (if is_verified k s then unverified (first (flaws (tabled_names brands) c)) else None)
    (if is_limited k s then unlimited (limit_of c.limitpriv) else None)
    else Some (WrongState s)

-- a state that a step records is one in which a zone is stored
abbrev pub has_stored_state : Step → Bool
has_stored_state (Record s) = is_stored s
has_stored_state s = true

abbrev pub hook_before : ChangeKind → Step
hook_before k = Hook (record { before = true; kind = k })

abbrev pub hook_after : ChangeKind → Step
hook_after k = Hook (record { before = false; kind = k })

abbrev pub copies : List Step
copies = Copy 1 ∷ Copy 2 ∷ Copy 3 ∷ Copy 4 ∷ []

abbrev pub erases : List Step
erases = Erase 1 ∷ Erase 2 ∷ Erase 3 ∷ Erase 4 ∷ []

-- the zone's files are copied: the zone is incomplete until all are there
abbrev pub copying : ChangeKind → List Step
copying k = Record Incomplete ∷ (copies ++ (Record Installed ∷ hook_after k ∷ []))

abbrev pub install_part : List Step
install_part = hook_before change.Install ∷ copying change.Install

abbrev pub clone_part : List ℕ → List Step
clone_part source = hook_before change.Clone ∷ Source source ∷ copying change.Clone

-- an incomplete zone isn't made incomplete first
abbrev pub erasing : List Step
erasing = erases ++ (Record Configured ∷ hook_after change.Uninstall ∷ [])

abbrev pub uninstall_part : ZoneState → List Step
uninstall_part Incomplete = hook_before change.Uninstall ∷ erasing
uninstall_part s = hook_before change.Uninstall ∷ Record Incomplete ∷ erasing

abbrev pub attach_part : List Step
attach_part = hook_before change.Attach ∷ Record Installed ∷ hook_after change.Attach ∷ []

abbrev pub detach_part : List Step
detach_part = hook_before change.Detach ∷ Record Configured ∷ hook_after change.Detach ∷ []

abbrev pub ready_part : Contents → List Step
ready_part c =
    (hook_before change.Ready ∷ Zid None ∷ Limits ∷ Devices None ∷ Root ∷ [])
    ++ (map Mounted (fs_dirs c)
    ++ (map Claimed (claims_of c)
    ++ (State Ready ∷ hook_after change.Ready ∷ [])))

abbrev pub boot_part : List Step
boot_part = hook_before change.Boot ∷ Init None ∷ State Running ∷ hook_after change.Boot ∷ []

-- the unmounts and the releases are as many as there are mounts and claims, and each stands for all
abbrev pub halt_part : List Step
halt_part =
    hook_before change.Halt ∷ State ShuttingDown ∷ Kill None ∷ Unmount None ∷ Release None
    ∷ Clear ∷ State Down ∷ ZidBack None ∷ State Installed ∷ hook_after change.Halt ∷ []

abbrev pub boot_plan : ZoneState → Contents → List Step
boot_plan Ready c = boot_part
boot_plan s c = ready_part c ++ boot_part

-- the steps of a request that begins in a state; of a reboot those before the zone boots
abbrev pub plan : Request → ZoneState → Contents → List Step
plan request.Install s c = install_part
plan request.Uninstall s c = uninstall_part s
plan (request.Clone source) s c = clone_part source
plan request.Attach s c = attach_part
plan request.Detach s c = detach_part
plan request.Mark s c = Record Incomplete ∷ []
plan (request.Move path) s c = Moved ∷ []
plan request.Ready s c = ready_part c
plan (request.Boot args) s c = boot_plan s c
plan request.Halt s c = halt_part
plan (request.Reboot args) s c = halt_part

-- the configuration that a request keeps for its steps. Those of a halt look at none
abbrev pub kept_of : Request → Contents → Contents
kept_of request.Halt c = blank
kept_of r c = c

-- what a failure undoes: the steps of the ready part, hooks left out, until the zone is ready
abbrev pub made_after : Step → List Step → List Step
made_after (Zid n) made = Zid n ∷ made
made_after Limits made = Limits ∷ made
made_after (Devices n) made = Devices n ∷ made
made_after Root made = Root ∷ made
made_after (Mounted dir) made = Mounted dir ∷ made
made_after (Claimed c) made = Claimed c ∷ made
made_after (State Ready) made = []
made_after s made = made
