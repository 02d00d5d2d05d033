-- What an event is given of the pools that zones share, as text.
use Rattle.std.specs.Prelude.{◌≡◌, ℕ, List, ◌++◌, codes, Bool, true, nat_le, IsTrue}
use Rattle.std.specs.Fmt.{decimal}
use Rattle.zone_pools.specs.declared.grant.Grant.{Grant}
use Rattle.zone_pools.specs.declared.grant.Grant.TheVariants.{Nothing, Number, Yes, Denied}
use Rattle.zone_pools.specs.declared.grant.Pool.{Pool}
use Rattle.zone_pools.specs.declared.grant.Pool.TheVariants.{Pids, Zids, Zones, Paths, Store, Links, Addresses, Datasets, Source}

abbrev pub pool_word : Pool → List ℕ
pool_word Pids = codes "pids"
pool_word Zids = codes "zids"
pool_word Zones = codes "zones"
pool_word Paths = codes "paths"
pool_word Store = codes "store"
pool_word Links = codes "links"
pool_word Addresses = codes "addresses"
pool_word Datasets = codes "datasets"
pool_word Source = codes "source"

-- nothing was asked, a number, yes, or no by a pool
abbrev pub grant_text : Grant → List ℕ
grant_text Nothing = codes "@-"
grant_text (Number n) = codes "@" ++ decimal n
grant_text Yes = codes "@yes"
grant_text (Denied pool) = codes "@no " ++ pool_word pool

abbrev pub greatest_number : ℕ
greatest_number = 4294967295

-- a grant whose number, if it has one, there is
abbrev pub is_grant : Grant → Bool
is_grant (Number n) = nat_le n greatest_number
is_grant grant = true

-- a line is the text of a grant, one space and a rest
pub record SplitsInto (line : List ℕ) (grant : Grant) (rest : List ℕ) : Type 0 where
  pub number : IsTrue (is_grant grant)
  pub text : line ≡ grant_text grant ++ (codes " " ++ rest)

-- a law: what is written of a grant, with a space and a rest after it, is split into them and into no others
abbrev pub GrantsReadBack : Type 0
GrantsReadBack = (grant : Grant) (rest : List ℕ) → IsTrue (is_grant grant)
    → SplitsInto (grant_text grant ++ (codes " " ++ rest)) grant rest
    × ((other : Grant) (more : List ℕ) → SplitsInto (grant_text grant ++ (codes " " ++ rest)) other more → (other ≡ grant) × (more ≡ rest))

-- a law: no line is split in two ways
abbrev pub LinesSplitOneWay : Type 0
LinesSplitOneWay = (line : List ℕ) (a b : Grant) (r s : List ℕ) → SplitsInto line a r → SplitsInto line b s → (a ≡ b) × (r ≡ s)

-- a law: no two grants have one text
abbrev pub GrantsDiffer : Type 0
GrantsDiffer = (a b : Grant) → IsTrue (is_grant a) → IsTrue (is_grant b) → grant_text a ≡ grant_text b → a ≡ b
