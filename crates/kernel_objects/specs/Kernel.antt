-- What one zone has in the kernel, and what its calls answer.
use Rattle.std.specs.Prelude.{ℕ, List, [], Option, Some, None, Bool, false, not, ◌&&◌, is_some, length, nat_eq, nat_le, Result, Ok, Err, if◌then◌else◌}
use Rattle.std.specs.List.{list_all}
use Rattle.std.specs.Option.{option_map}
use Rattle.priv_sets.specs.Sets.{within}
use Rattle.zone_pools.specs.Firsts.{is_nil}
use Rattle.zone_pools.specs.Owned_lists.{Put, edited}
use Rattle.kernel_objects.specs.Processes.{Process, below, may_fork, with_pid}
use Rattle.kernel_objects.specs.declared.faults.Errno.{Errno}
use Rattle.kernel_objects.specs.declared.faults.Errno.TheVariants.{EAGAIN, EPERM, ESRCH}
use Rattle.kernel_objects.specs.declared.faults.KernelFault.{KernelFault}
use Rattle.kernel_objects.specs.declared.faults.KernelFault.TheVariants.{Refused}
use Rattle.kernel_objects.specs.declared.objects.Id.{Id}

pub record Kernel : Type 0 where
  pub id : Option Id
  -- in order of their numbers
  pub processes : List Process
  -- in order of declaration
  pub devices : List (List ℕ)

abbrev pub nothing : Kernel
nothing = record { id = None; processes = []; devices = [] }

abbrev pub is_nothing : Kernel → Bool
is_nothing k = not (is_some k.id) && is_nil k.processes && is_nil k.devices

-- the zone's id
abbrev pub new_id : ℕ → Id
new_id zid = record { zid = zid; limit = []; most = None; bootargs = []; fs_allowed = [] }

abbrev pub zid_of : Option Id → Option ℕ
zid_of id = option_map (λ i. i.zid) id

abbrev pub has_zid : ℕ → Option Id → Bool
has_zid zid None = false
has_zid zid (Some i) = nat_eq i.zid zid

abbrev pub bootargs_of : Option Id → Option (List ℕ)
bootargs_of id = option_map (λ i. i.bootargs) id

abbrev pub fs_allowed_of : Option Id → Option (List ℕ)
fs_allowed_of id = option_map (λ i. i.fs_allowed) id

-- the id after its limits or its boot arguments were set, and after they were put back; a zone without an id has none
abbrev pub limited : List ℕ → Option ℕ → List ℕ → Id → Id
limited limit most fs_allowed i = record i { limit = limit; most = most; fs_allowed = fs_allowed }

abbrev pub with_bootargs : List ℕ → Id → Id
with_bootargs args i = record i { bootargs = args }

abbrev pub cleared : Id → Id
cleared i = new_id i.zid

abbrev pub with_id : (Id → Id) → Kernel → Kernel
with_id f k = record k { id = option_map f k.id }

-- the limit set; of a zone without an id nothing is in it
abbrev pub limit_of : Option Id → List ℕ
limit_of None = []
limit_of (Some i) = i.limit

abbrev pub most_of : Option Id → Option ℕ
most_of None = None
most_of (Some i) = i.most

abbrev pub reaches : Option ℕ → ℕ → Bool
reaches None n = false
reaches (Some most) n = nat_le most n

-- whether the zone has as many processes as it may have
abbrev pub at_limit : Kernel → Bool
at_limit k = reaches (most_of k.id) (length k.processes)

-- whether each process's set lies within the zone's limit set
abbrev pub within_limit : Kernel → Bool
within_limit k = list_all (λ p. within p.privileges (limit_of k.id)) k.processes

-- a process that enters has no parent and the zone's limit set, one that is forked its parent's set
abbrev pub entered : Kernel → List ℕ → Bool → ℕ → Process
entered k name first pid = record { pid = pid; parent = 0; name = name; first = first; privileges = limit_of k.id }

abbrev pub forked : Process → List ℕ → ℕ → Process
forked parent name pid = record { pid = pid; parent = parent.pid; name = name; first = false; privileges = parent.privileges }

-- the set that a process has which comes into a zone, or why it doesn't
abbrev pub set_unless_full : Bool → List ℕ → Result (List ℕ) Errno
set_unless_full full set = if full then Err EAGAIN else Ok set

abbrev pub fork_set : Option Process → Bool → Result (List ℕ) Errno
fork_set None full = Err ESRCH
fork_set (Some p) full = if may_fork p then set_unless_full full p.privileges else Err EPERM

abbrev pub answered : {A : Type 0} → Result A Errno → Result (Unit {0}) KernelFault
answered (Ok x) = Ok tt
answered (Err e) = Err (Refused e)

-- what is answered to an entry and to a fork
abbrev pub enter_answer : Kernel → Result (Unit {0}) KernelFault
enter_answer k = answered (set_unless_full (at_limit k) (limit_of k.id))

abbrev pub fork_answer : ℕ → Kernel → Result (Unit {0}) KernelFault
fork_answer parent k = answered (fork_set (with_pid parent k.processes) (at_limit k))

-- a process comes to its place
abbrev pub with_process : Process → Kernel → Kernel
with_process p k = record k { processes = edited (Put (below p.pid) p) k.processes }

abbrev pub with_processes : List Process → Kernel → Kernel
with_processes ps k = record k { processes = ps }
