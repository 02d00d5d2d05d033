-- Which zone holds what, by a key that one zone alone may hold.
use Rattle.std.specs.Prelude.{ℕ, List, Option, Some, None, Bool, false, bytes_eq, if◌then◌else◌}
use Rattle.std.specs.Map.{lookup}
use Rattle.zn_base.specs.Names.{Name}

-- keys with their zones, and how many more are taken without memory
pub record Holders (K : Type 0) : Type 0 where
  pub entries : List (K × Name)
  pub room : ℕ

-- the zone that holds a key
abbrev pub owner : {K : Type 0} → (K → K → Bool) → Holders K → K → Option Name
owner eq held k = lookup (eq k) held.entries

abbrev pub is_owner : Name → Option Name → Bool
is_owner z None = false
is_owner z (Some y) = bytes_eq z y

-- what each zone holds, where these are the owners
abbrev pub held_by : {K : Type 0} → (K → Option Name) → Name → K → Bool
held_by owners z k = is_owner z (owners k)

-- z holds just this from now on, and each other zone what it held
abbrev pub holding : {K : Type 0} → Name → (K → Bool) → (Name → K → Bool) → Name → K → Bool
holding z has held y k = if bytes_eq z y then has k else held y k
