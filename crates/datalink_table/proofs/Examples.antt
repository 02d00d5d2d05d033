-- What the definitions say of some items.
use Rattle.std.proofs.Common.{◌≡◌, [], ◌∷◌, Ok, Err, true, false, codes, map, refl}
use Rattle.zone_pools.specs.declared.grant.Grant.TheVariants.{Yes, Denied}
use Rattle.zone_pools.specs.declared.grant.Pool.TheVariants.{Links, Datasets}
use Rattle.datalink_table.specs.Claims.{claim_of, claiming, each_once, holds, items_of}
use Rattle.datalink_table.specs.Shared.{Shared, ask_answer, claim_answer, declare_answer}
use Rattle.datalink_table.specs.declared.claims.Claim.{Claim}
use Rattle.datalink_table.specs.declared.claims.ClaimKind.TheVariants.{Link, Address, Dataset}
use Rattle.datalink_table.specs.declared.faults.ClaimFault.TheVariants.{Duplicate, Denied as Refused}

abbrev link : Claim
link = claim_of Link (codes "net0")

abbrev dataset : Claim
dataset = claim_of Dataset (codes "net0")

abbrev address : Claim
address = claim_of Address (codes "10.0.0.1")

-- the link net0, which a holds, and the address 10.0.0.1, which nobody holds, are declared
abbrev shared : Shared
shared = record { declared = link ∷ address ∷ []; room = 0; holders = record { entries = (link, codes "a") ∷ []; room = 0 } }

-- a link and a dataset of one name are two items
declares : map (λ c. declare_answer c shared) (link ∷ dataset ∷ address ∷ []) ≡ Err Duplicate ∷ Ok tt ∷ Err Duplicate ∷ []
declares = refl

-- to the zone that holds an item, to another zone, and of an item that isn't declared
asks : map (λ c. ask_answer (codes "a") c shared) (link ∷ dataset ∷ address ∷ []) ≡ Yes ∷ Denied Datasets ∷ Yes ∷ []
asks = refl

asks_of_another : map (λ c. ask_answer (codes "b") c shared) (link ∷ dataset ∷ address ∷ []) ≡ Denied Links ∷ Denied Datasets ∷ Yes ∷ []
asks_of_another = refl

claims : map (λ c. claim_answer (codes "b") c shared) (link ∷ dataset ∷ address ∷ []) ≡ Err (Refused Links) ∷ Err (Refused Datasets) ∷ Ok tt ∷ []
claims = refl

-- in the order of claims
held : map (λ kind. items_of kind (address ∷ link ∷ claim_of Link (codes "net1") ∷ dataset ∷ [])) (Link ∷ Address ∷ Dataset ∷ []) ≡
    (codes "net0" ∷ codes "net1" ∷ []) ∷ (codes "10.0.0.1" ∷ []) ∷ (codes "net0" ∷ []) ∷ []
held = refl

comes_last : claiming false dataset (link ∷ []) ≡ link ∷ dataset ∷ []
comes_last = refl

stays : claiming true link (link ∷ dataset ∷ []) ≡ link ∷ dataset ∷ []
stays = refl

by_kind : map (λ c. holds c (link ∷ [])) (link ∷ dataset ∷ []) ≡ true ∷ false ∷ []
by_kind = refl

once : map each_once ((link ∷ dataset ∷ address ∷ []) ∷ (link ∷ address ∷ link ∷ []) ∷ []) ≡ true ∷ false ∷ []
once = refl
