-- What one zone holds, in the order of its claims.
use Rattle.std.specs.Prelude.{ℕ, List, [], ◌∷◌, ◌++◌, Bool, true, not, ◌&&◌, bytes_eq, filter, map, if◌then◌else◌}
use Rattle.std.specs.List.{list_any}
use Rattle.zn_base.specs.Names.{Name}
use Rattle.zone_pools.specs.declared.grant.Pool.{Pool}
use Rattle.zone_pools.specs.declared.grant.Pool.TheVariants.{Links, Addresses, Datasets}
use Rattle.datalink_table.specs.contracts.claims.ClaimKind.{the_type as kind_type}
use Rattle.datalink_table.specs.declared.claims.ClaimKind.{ClaimKind}
use Rattle.datalink_table.specs.declared.claims.ClaimKind.TheVariants.{Link, Address, Dataset}
use Rattle.datalink_table.specs.declared.claims.Claim.{Claim}
use denote.Enum.Bare.{sameb}

-- the claims of a zone, and how many more it makes without memory
pub record Cell : Type 0 where
  pub claims : List Claim
  pub room : ℕ

-- a claim that has its memory, and the zone that makes it
pub record Readied : Type 0 where
  pub claim : Claim
  pub zone : Name

-- by their tags, since no kind has a field
abbrev pub same_kind : ClaimKind → ClaimKind → Bool
same_kind a b = sameb kind_type a b

-- whether two claims are of one item: of one kind, and of one name
abbrev pub same_claim : Claim → Claim → Bool
same_claim a b = same_kind a.kind b.kind && bytes_eq a.item b.item

abbrev pub pool_of : ClaimKind → Pool
pool_of Link = Links
pool_of Address = Addresses
pool_of Dataset = Datasets

abbrev pub claim_of : ClaimKind → List ℕ → Claim
claim_of kind item = record { kind = kind; item = item }

abbrev pub holds : Claim → List Claim → Bool
holds c cs = list_any (same_claim c) cs

abbrev pub each_once : List Claim → Bool
each_once [] = true
each_once (c ∷ cs) = not (holds c cs) && each_once cs

-- the claims after one more; an item that the zone holds already stays in its place
abbrev pub claiming : (already : Bool) → Claim → List Claim → List Claim
claiming already c cs = if already then cs else cs ++ c ∷ []

abbrev pub is_of : ClaimKind → Claim → Bool
is_of kind c = same_kind kind c.kind

-- the items of a kind, in the order of their claims
abbrev pub items_of : ClaimKind → List Claim → List (List ℕ)
items_of kind cs = map (λ c. c.item) (filter (is_of kind) cs)
