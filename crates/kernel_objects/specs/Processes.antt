-- The processes of one zone, in order of their numbers, and what becomes of them.
use Rattle.std.specs.Prelude.{ℕ, List, Option, Some, None, Bool, true, false, not, ◌&&◌, filter, min, length, nat_eq, nat_lt, Result, Ok, Err, ◌^◌, ◌-◌, if◌then◌else◌}
use Rattle.priv_sets.specs.Sets.{has, only, without}
use Rattle.priv_sets.specs.declared.table.TheConstants.{PROC_EXEC, PROC_FORK, SYS_MOUNT}
use Rattle.zone_pools.specs.Firsts.{first_of}
use Rattle.zone_pools.specs.Owned_lists.{Change, Go, edited}
use Rattle.kernel_objects.specs.declared.faults.Errno.{Errno}
use Rattle.kernel_objects.specs.declared.faults.Errno.TheVariants.{EPERM, ESRCH}
use Rattle.kernel_objects.specs.declared.objects.ProcRow.{ProcRow}
use Rattle.kernel_objects.specs.declared.objects.Running.{Running}
use Rattle.kernel_objects.specs.declared.objects.Signal.{Signal}
use Rattle.kernel_objects.specs.declared.objects.Signal.TheVariants.{Kill, Term, Zero}

pub record Process : Type 0 where
  pub pid : ℕ
  -- the parent's number, or 0
  pub parent : ℕ
  pub name : List ℕ
  -- whether it is the zone's first process
  pub first : Bool
  pub privileges : List ℕ

-- a process by its number and the rest
abbrev pub process_of : ℕ × Running → Process
process_of e = record { pid = e.0; parent = e.1.parent; name = e.1.name; first = e.1.first; privileges = e.1.privileges }

abbrev pub has_pid : ℕ → Process → Bool
has_pid pid p = nat_eq p.pid pid

abbrev pub below : ℕ → Process → Bool
below pid p = nat_lt p.pid pid

abbrev pub with_pid : ℕ → List Process → Option Process
with_pid pid ps = first_of (filter (has_pid pid) ps)

abbrev pub row_of : Process → ProcRow
row_of p = record { pid = p.pid; parent = p.parent; name = p.name }

-- how many there are; the count stands still at its type's end
abbrev pub count_of : List Process → ℕ
count_of ps = min (length ps) (2 ^ 32 - 1)

abbrev pub is_first : Process → Bool
is_first p = p.first

abbrev pub pid_or_none : Option Process → ℕ
pid_or_none None = 0
pid_or_none (Some p) = p.pid

-- the parent that children get whose own goes: the zone's first process, or 0 where there is none
abbrev pub heir : List Process → ℕ
heir ps = pid_or_none (first_of (filter is_first ps))

abbrev pub adopted : (gone heir : ℕ) → Process → Process
adopted gone heir p = if nat_eq p.parent gone then record p { parent = heir } else p

abbrev pub adopting : ℕ → List Process → List Process
adopting gone ps = edited (Change (adopted gone (heir ps))) ps

-- a process goes, and its children get another parent
abbrev pub without_pid : ℕ → List Process → List Process
without_pid pid ps = adopting pid (edited (Go (has_pid pid)) ps)

-- what a process may do
abbrev pub may_exec : Process → Bool
may_exec p = has p.privileges PROC_EXEC

abbrev pub may_fork : Process → Bool
may_fork p = has p.privileges PROC_FORK

abbrev pub may_mount : Process → Bool
may_mount p = has p.privileges SYS_MOUNT

-- changes of one process
abbrev pub at_pid : ℕ → (Process → Process) → Process → Process
at_pid pid f p = if nat_eq p.pid pid then f p else p

abbrev pub renamed : List ℕ → Process → Process
renamed name p = record p { name = name }

abbrev pub dropping : ℕ → Process → Process
dropping number p = record p { privileges = without p.privileges (only number) }

-- a call for a process that the zone has, else ESRCH
abbrev pub if_there : Option Process → Result (Unit {0}) Errno
if_there None = Err ESRCH
if_there (Some p) = Ok tt

abbrev pub if_may_exec : Option Process → Result (Unit {0}) Errno
if_may_exec None = Err ESRCH
if_may_exec (Some p) = if may_exec p then Ok tt else Err EPERM

abbrev pub if_may_mount : Option Process → Result (Unit {0}) Errno
if_may_mount None = Err ESRCH
if_may_mount (Some p) = if may_mount p then Ok tt else Err EPERM

-- whether a signal ends a process: a zone's first process ignores what comes from its own zone
abbrev pub is_deadly : Signal → Bool
is_deadly Zero = false
is_deadly Kill = true
is_deadly Term = true

abbrev pub ends : (inside : Bool) → Signal → Process → Bool
ends inside signal p = is_deadly signal && not (inside && p.first)

abbrev pub ends_some : (inside : Bool) → Signal → Option Process → Bool
ends_some inside signal None = false
ends_some inside signal (Some p) = ends inside signal p

-- the processes after a signal
abbrev pub signalled : (inside : Bool) → Signal → ℕ → List Process → List Process
signalled inside signal pid ps = if ends_some inside signal (with_pid pid ps) then without_pid pid ps else ps
