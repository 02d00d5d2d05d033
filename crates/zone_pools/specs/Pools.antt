-- What the pools say that all zones share, and which grants may be stated.
use Rattle.std.specs.Prelude.{ℕ, zero, suc, List, [], ◌∷◌, ◌+◌, ◌-◌, Bool, true, false, not, ◌&&◌, nat_le, nat_lt, Option, Some, None, if◌then◌else◌}
use Rattle.std.specs.List.{list_all, list_any}
use Rattle.zn_base.specs.Names.{Name}
use Rattle.zone_pools.specs.Asked.{A_path, A_pid, A_serial, A_source, A_zid, A_zone, An_item, Asked, pool_of}
use Rattle.zone_pools.specs.Same.{same_pool}
use Rattle.zone_pools.specs.declared.grant.Grant.{Grant}
use Rattle.zone_pools.specs.declared.grant.Grant.TheVariants.{Nothing, Number, Yes, Denied}
use Rattle.zone_pools.specs.declared.grant.Pool.{Pool}
use Rattle.zone_pools.specs.declared.grant.Pool.TheVariants.{Pids, Zids, Zones, Paths, Store, Source}
use Rattle.zone_pools.specs.declared.limits.TheConstants.{PID_MAX, PID_MIN, SERIAL_MAX, ZID_MAX, ZID_MIN, ZONES_MAX}

-- the least number that isn't used among so many from one on
unfoldable pub first_free : (ℕ → Bool) → ℕ → ℕ → Option ℕ
first_free used from zero = None
first_free used from (suc count) = elim (used from) as (λ b. Option ℕ) [
  | true ↦ first_free used (from + 1) count
  | false ↦ Some from
]

abbrev pub or_else : {A : Type 0} → Option A → Option A → Option A
or_else (Some x) o = Some x
or_else None o = o

-- the least free number above the last one given, starting again at the lowest after the highest
abbrev pub next_free : (ℕ → Bool) → (low high last : ℕ) → Option ℕ
next_free used low high last = or_else (first_free used (last + 1) (high - last)) (first_free used low (high + 1 - low))

-- what the pools know: which numbers are used and which was given last, how many zones are stored, whether a zone
-- other than this one has a path, how many records there are, whether the store has room for so many bytes of a zone, whether
-- a zone may hold an item of a pool, and whether a zone may be cloned
pub record Pools : Type 0 where
  pub pid_used : ℕ → Bool
  pub zid_used : ℕ → Bool
  pub last_pid : ℕ
  pub last_zid : ℕ
  pub zones : ℕ
  pub path_taken : Name → List ℕ → Bool
  pub serial : ℕ
  pub may_store : Name → ℕ → Bool
  pub may_hold : Name → Pool → List ℕ → Bool
  pub may_clone : Name → Bool

abbrev pub has_place : Pools → Bool
has_place P = nat_lt P.zones ZONES_MAX

abbrev pub has_serial : Pools → Bool
has_serial P = nat_lt P.serial SERIAL_MAX

-- there is a number for a record of z, and room for it under the number n
abbrev pub has_room : Pools → Name → (ℕ → ℕ) → ℕ → Bool
has_room P z size n = has_serial P && P.may_store z (size n)

abbrev pub numbered : Pool → Option ℕ → Grant
numbered pool None = Denied pool
numbered pool (Some n) = Number n

-- what a pool says now to an event of z
abbrev pub said_by : Pools → Name → Asked → Grant
said_by P z A_pid = numbered Pids (next_free P.pid_used PID_MIN PID_MAX P.last_pid)
said_by P z A_zid = numbered Zids (next_free P.zid_used ZID_MIN ZID_MAX P.last_zid)
said_by P z A_zone = if has_place P then Yes else Denied Zones
said_by P z (A_path path) = if P.path_taken z path then Denied Paths else Yes
said_by P z (A_serial size) = if has_room P z size (P.serial + 1) then Number (P.serial + 1) else Denied Store
said_by P z (An_item pool item) = if P.may_hold z pool item then Yes else Denied pool
said_by P z (A_source source) = if P.may_clone source then Yes else Denied Source

-- the first denial, else what the last pool says
abbrev pub said_by_all : Pools → Name → List Asked → Grant → Grant
said_by_all P z [] g = g
said_by_all P z (a ∷ asked) g = elim (said_by P z a) as (λ g. Grant) [
  | Denied pool ↦ Denied pool
  | g ↦ said_by_all P z asked g
]

-- whether a number may be stated to an event of z for a pool. A stated path isn't looked at again
abbrev pub fits_pool : Pools → Name → ℕ → Asked → Bool
fits_pool P z n A_pid = nat_le PID_MIN n && nat_le n PID_MAX && not (P.pid_used n)
fits_pool P z n A_zid = nat_le ZID_MIN n && nat_le n ZID_MAX && not (P.zid_used n)
fits_pool P z n A_zone = has_place P
fits_pool P z n (A_path path) = true
fits_pool P z n (A_serial size) = nat_le 1 n && has_room P z size n
fits_pool P z n (An_item pool item) = false
fits_pool P z n (A_source source) = false

-- whether a yes may be stated to an event of z: of an item where the pool says it now, of what is cloned always
abbrev pub fits_yes : Pools → Name → Asked → Bool
fits_yes P z (An_item pool item) = P.may_hold z pool item
fits_yes P z (A_source source) = true
fits_yes P z _ = false

abbrev pub is_pool : Pool → Asked → Bool
is_pool pool a = same_pool pool (pool_of a)

abbrev pub fits_asked : Pools → Name → List Asked → Grant → Bool
fits_asked P z [] Nothing = true
fits_asked P z [] g = false
fits_asked P z (a ∷ asked) (Number n) = list_all (fits_pool P z n) (a ∷ asked)
fits_asked P z (a ∷ asked) Yes = list_all (fits_yes P z) (a ∷ asked)
fits_asked P z (a ∷ asked) (Denied pool) = list_any (is_pool pool) (a ∷ asked)
fits_asked P z (a ∷ asked) g = false
