-- What the calls of a zone's processes do (section 2 of the manual), and a signal from the global zone.
use Rattle.std.specs.Prelude.{ℕ, List, [], ◌∷◌, Bool, true, false, ◌&&◌, map, Option, Some, None, Result, Ok as Right, Err, if◌then◌else◌, unwrap_or}
use Rattle.datalink_table.specs.Claims.{items_of}
use Rattle.datalink_table.specs.declared.claims.ClaimKind.TheVariants.{Address, Dataset, Link}
use Rattle.kernel_objects.specs.Kernel.{at_limit, bootargs_of, fork_set, forked, fs_allowed_of}
use Rattle.kernel_objects.specs.Processes.{Process, at_pid, dropping, ends, may_exec, may_mount, renamed, row_of}
use Rattle.kernel_objects.specs.declared.faults.Errno.{Errno}
use Rattle.kernel_objects.specs.declared.faults.Errno.TheVariants.{EPERM, ESRCH}
use Rattle.kernel_objects.specs.declared.objects.Signal.{Signal}
use Rattle.loopback_mounts.specs.Mounts.{before, is_at, listed, mount_answer, mount_at, unmount_answer}
use Rattle.loopback_mounts.specs.Places.{place_at, special_at}
use Rattle.loopback_mounts.specs.Types.{may_mount_type}
use Rattle.loopback_mounts.specs.declared.faults.MountFault.{MountFault}
use Rattle.loopback_mounts.specs.declared.faults.MountFault.TheVariants.{Refused as Refused_by}
use Rattle.loopback_mounts.specs.declared.mount.Mount.{Mount}
use Rattle.loopback_mounts.specs.declared.mount.MountEntry.{MountEntry}
use Rattle.priv_sets.specs.Sets.{print_of}
use Rattle.process_calls.specs.declared.call.Call.{Call}
use Rattle.process_calls.specs.declared.call.Call.TheVariants as call
use Rattle.process_calls.specs.declared.call.MountCall.{MountCall}
use Rattle.zone_pools.specs.Asked.{A_pid}
use Rattle.zone_pools.specs.Decisions.{Ask, Just}
use Rattle.zoneadmd_steps.specs.Arrivals.{A_process}
use Rattle.zone_pools.specs.Owned_lists.{Go, Put}
use Rattle.zoneadmd_steps.specs.Objects.{Object_edit, Of_mounts, Process_goes, Processes_change, kernel_of}
use Rattle.zone_cases.specs.State.Decisions.{Decision, done_saying, refused, tells}
use Rattle.zone_cases.specs.State.Edits.{Edit, Line, Of_console, Of_objects}
use Rattle.zone_cases.specs.State.Worlds.{View, objects_of}
use Rattle.zone_cases.specs.declared.replies.Body.TheVariants.{Child, Datasets, Devices, Lines, Mounts, Net, Processes}
use Rattle.zone_cases.specs.declared.replies.Head.TheVariants.{Ok}
use Rattle.zone_cases.specs.declared.replies.Refusal.{Refusal}
use Rattle.zone_cases.specs.declared.replies.Refusal.TheVariants.{Denied, Errno as Of_errno, NoProcess, TooManyMounts}

-- the objects change so, and no more is said
abbrev pub changes : Object_edit → Decision
changes e = Just (done_saying (Of_objects e ∷ []) Ok)

abbrev pub refused_by : Errno → Decision
refused_by e = Just (refused (Of_errno e))

-- fork(2): the child has its parent's set
abbrev pub forks : Process → List ℕ → Result (List ℕ) Errno → Decision
forks p name (Err e) = refused_by e
forks p name (Right set) = Ask (A_process (forked p name 0)) (A_pid ∷ []) (λ pool. refused (Denied pool)) (λ n. tells (Child n))

-- exec(2): the process has another name
abbrev pub execs : ℕ → Process → List ℕ → Decision
execs pid p name = if may_exec p then changes (Processes_change (at_pid pid (renamed name))) else refused_by EPERM

-- kill(1) and kill(2): where the zone has the process, and from inside it or from the global zone
abbrev pub ending : Bool → ℕ → List Edit
ending false pid = []
ending true pid = Of_objects (Process_goes pid) ∷ []

abbrev pub signals : (inside : Bool) → Signal → ℕ → Option Process → Decision
signals inside signal pid None = refused_by ESRCH
signals inside signal pid (Some p) = Just (done_saying (ending (ends inside signal p) pid) Ok)

-- what mount(2) and umount(2) refuse; that memory runs out is no answer
abbrev pub mount_refusal : MountFault → Refusal
mount_refusal (Refused_by e) = Of_errno e
mount_refusal fault = TooManyMounts

abbrev pub mount_of : MountCall → List ℕ → Mount
mount_of m special = record { dir = m.dir; fstype = m.fstype; special = special; read_only = m.read_only; by_process = true }

-- something is mounted, where nothing refuses it
abbrev pub mounts_if_free : Mount → Result (Unit {0}) MountFault → Decision
mounts_if_free mount (Err fault) = Just (refused (mount_refusal fault))
mounts_if_free mount (Right free) = changes (Of_mounts (Put (before mount.dir) (record { mount = mount; held = false })))

abbrev pub mounts_special : MountCall → List MountEntry → Result (List ℕ) MountFault → Decision
mounts_special m ms (Err fault) = Just (refused (mount_refusal fault))
mounts_special m ms (Right special) = mounts_if_free (mount_of m special) (mount_answer m.dir ms)

-- mount(2): what the process may mount, and then what the zone's mounts say
abbrev pub mounts : Process → Option (List ℕ) → MountCall → List MountEntry → Decision
mounts p allowed m ms =
    if may_mount p && may_mount_type allowed m.fstype then mounts_special m ms (special_at ms m.fstype m.special)
    else refused_by EPERM

-- umount(2): a process takes away what a process mounted
abbrev pub is_by_process : Option MountEntry → Bool
is_by_process None = true
is_by_process (Some m) = m.mount.by_process

abbrev pub unmounts_if_free : List ℕ → Result Mount MountFault → Decision
unmounts_if_free dir (Err fault) = Just (refused (mount_refusal fault))
unmounts_if_free dir (Right mount) = changes (Of_mounts (Go (is_at dir)))

abbrev pub unmounts : Process → List ℕ → List MountEntry → Decision
unmounts p dir ms =
    if may_mount p && is_by_process (mount_at dir ms) then unmounts_if_free dir (unmount_answer dir ms)
    else refused_by EPERM

-- where a path lies in the global zone
abbrev pub tells_place : Result (List ℕ) MountFault → Decision
tells_place (Err fault) = Just (refused (mount_refusal fault))
tells_place (Right place) = Just (tells (Lines (place ∷ [])))

-- a call of the process p, whose number is pid
abbrev pub calls : View → ℕ → Process → Call → Decision
calls v pid p (call.Fork name) = forks p name (fork_set (Some p) (at_limit (kernel_of (objects_of v.world))))
calls v pid p (call.Exec name) = execs pid p name
calls v pid p call.Exit = changes (Process_goes pid)
calls v pid p (call.Kill signal target) = signals true signal target (v.process target)
calls v pid p call.Ps = Just (tells (Processes (map row_of v.world.processes)))
calls v pid p call.Privs = Just (tells (Lines (print_of p.privileges ∷ [])))
calls v pid p (call.Drop number) = changes (Processes_change (at_pid pid (dropping number)))
calls v pid p (call.Mount m) = mounts p (fs_allowed_of (kernel_of (objects_of v.world)).id) m v.world.mounts
calls v pid p (call.Umount dir) = unmounts p dir v.world.mounts
calls v pid p (call.Read path) = tells_place (place_at v.world.mounts path false)
calls v pid p (call.Write path) = tells_place (place_at v.world.mounts path true)
calls v pid p call.Mounts = Just (tells (Mounts (listed v.world.mounts)))
calls v pid p call.Links = Just (tells (Net (items_of Link v.world.claims) (items_of Address v.world.claims)))
calls v pid p call.Datasets = Just (tells (Datasets (items_of Dataset v.world.claims)))
calls v pid p call.Devices = Just (tells (Devices v.world.devices))
calls v pid p call.Zonename = Just (tells (Lines (v.zone ∷ [])))
calls v pid p call.Bootargs = Just (tells (Lines (unwrap_or (bootargs_of (kernel_of (objects_of v.world)).id) [] ∷ [])))
calls v pid p (call.Cons text) = Just (done_saying (Of_console (Line text) ∷ []) Ok)
calls v pid p call.True = Just (done_saying [] Ok)
calls v pid p call.False = Just (done_saying [] Ok)

abbrev pub calls_if_there : View → ℕ → Option Process → Call → Decision
calls_if_there v pid None c = Just (refused NoProcess)
calls_if_there v pid (Some p) c = calls v pid p c

-- the process of this number calls
unfoldable pub called : View → ℕ → Call → Decision
called v pid c = calls_if_there v pid (v.process pid) c
