-- What other zones may ask of the kernel: who holds each number of a process and of a zone, the last ones given, and the
-- devices that are declared.
use Rattle.std.specs.Prelude.{◌≡◌, ℕ, List, ◌++◌, ◌∷◌, [], Option, Some, None, Bool, not, ◌&&◌, bytes_eq, filter, is_some, length, nat_eq, nat_le, nat_lt, Result, Ok, Err, if◌then◌else◌}
use Rattle.std.specs.List.{list_any}
use Rattle.zn_base.specs.Glob.{glob}
use Rattle.zn_base.specs.Names.{Name}
use Rattle.zone_pools.specs.Owners.{Holders, is_owner, owner}
use Rattle.zone_pools.specs.Pools.{next_free, numbered}
use Rattle.zone_pools.specs.declared.grant.Grant.{Grant}
use Rattle.zone_pools.specs.declared.grant.Pool.TheVariants.{Pids, Zids}
use Rattle.zone_pools.specs.declared.limits.TheConstants.{PID_MAX, PID_MIN, ZID_MAX, ZID_MIN}
use Rattle.kernel_objects.specs.Kernel.{Kernel, has_zid}
use Rattle.kernel_objects.specs.Processes.{has_pid}
use Rattle.kernel_objects.specs.declared.faults.KernelFault.{KernelFault}
use Rattle.kernel_objects.specs.declared.faults.KernelFault.TheVariants.{Duplicate, TooMany}
use Rattle.kernel_objects.specs.declared.limits.TheConstants.{DEVICES_MAX}

pub record Shared : Type 0 where
  pub pids : Holders ℕ
  pub zids : Holders ℕ
  pub last_pid : ℕ
  pub last_zid : ℕ
  pub devices : List (List ℕ)

-- the zone that holds a number
abbrev pub pid_owner : Shared → ℕ → Option Name
pid_owner s n = owner nat_eq s.pids n

abbrev pub zid_owner : Shared → ℕ → Option Name
zid_owner s n = owner nat_eq s.zids n

abbrev pub pid_used : Shared → ℕ → Bool
pid_used s n = is_some (pid_owner s n)

abbrev pub zid_used : Shared → ℕ → Bool
zid_used s n = is_some (zid_owner s n)

-- what the pools give
abbrev pub next_pid : Shared → Grant
next_pid s = numbered Pids (next_free (pid_used s) PID_MIN PID_MAX s.last_pid)

abbrev pub next_zid : Shared → Grant
next_zid s = numbered Zids (next_free (zid_used s) ZID_MIN ZID_MAX s.last_zid)

abbrev pub is_free : (low high : ℕ) → (ℕ → Bool) → ℕ → Bool
is_free low high used n = nat_le low n && nat_le n high && not (used n)

-- the shared part is as it was, but for room
pub record Alike (s t : Shared) : Type 0 where
  pub pids : (n : ℕ) → pid_owner t n ≡ pid_owner s n
  pub zids : (n : ℕ) → zid_owner t n ≡ zid_owner s n
  pub same : t ≡ record s { pids = t.pids; zids = t.zids }

-- z holds a number from now on, which is the last one given, and nothing else changes
pub record TakesPid (z : Name) (pid : ℕ) (s t : Shared) : Type 0 where
  pub pids : (n : ℕ) → pid_owner t n ≡ (if nat_eq pid n then Some z else pid_owner s n)
  pub same : t ≡ record s { pids = t.pids; last_pid = pid }

-- the numbers that pass a test are nobody's from now on, and nothing else changes
pub record FreesPids (gone : ℕ → Bool) (s t : Shared) : Type 0 where
  pub pids : (n : ℕ) → pid_owner t n ≡ (if gone n then None else pid_owner s n)
  pub same : t ≡ record s { pids = t.pids }

-- the same of the number of a zone; what the zone held before is nobody's
pub record TakesZid (z : Name) (zid : ℕ) (gone : ℕ → Bool) (s t : Shared) : Type 0 where
  pub zids : (n : ℕ) → zid_owner t n ≡ (if nat_eq zid n then Some z else if gone n then None else zid_owner s n)
  pub same : t ≡ record s { zids = t.zids; last_zid = zid }

pub record FreesZids (gone : ℕ → Bool) (s t : Shared) : Type 0 where
  pub zids : (n : ℕ) → zid_owner t n ≡ (if gone n then None else zid_owner s n)
  pub same : t ≡ record s { zids = t.zids }

-- the shared part names for z exactly what z has
pub record Agree (z : Name) (k : Kernel) (s : Shared) : Type 0 where
  pub pids : (n : ℕ) → list_any (has_pid n) k.processes ≡ is_owner z (pid_owner s n)
  pub zids : (n : ℕ) → has_zid n k.id ≡ is_owner z (zid_owner s n)

-- devices
abbrev pub is_declared : List ℕ → Shared → Bool
is_declared path s = list_any (bytes_eq path) s.devices

abbrev pub declare_answer : List ℕ → Shared → Result (Unit {0}) KernelFault
declare_answer path s =
    if is_declared path s then Err Duplicate
    else if nat_lt (length s.devices) DEVICES_MAX then Ok tt
    else Err (TooMany DEVICES_MAX)

abbrev pub declaring : List ℕ → Shared → Shared
declaring path s = record s { devices = s.devices ++ path ∷ [] }

abbrev pub fits_some : List (List ℕ) → List ℕ → Bool
fits_some patterns device = list_any (λ p. glob p device) patterns

-- the declared devices that fit one of the patterns
abbrev pub devices_for : List (List ℕ) → Shared → List (List ℕ)
devices_for patterns s = filter (fits_some patterns) s.devices
