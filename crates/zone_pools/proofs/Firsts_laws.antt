-- What is placed in a flat list is its zone's first thing, and nothing of another zone.
use Rattle.std.proofs.Common.{◌≡◌, ℕ, List, Bool, true, false, ◌∷◌, [], refl, ap, Some}
use Rattle.std.specs.Prelude.{◌≢◌}
use Rattle.std.specs.List.{cons_option}
use Rattle.std.specs.Str.{bytes_eq}
use Rattle.zone_pools.specs.declared.owned.Owned.{Owned}
use Rattle.zone_pools.specs.Owned_lists.{own, mine}
use Rattle.zone_pools.specs.Firsts.{first_of, placed}
use Rattle.zone_pools.proofs.Owned_laws.{same_self, other_tag}

pub first-placed : {A : Type 0} (z : List ℕ) (a : A) (os : List (Owned A)) → first_of (mine z (placed z a os)) ≡ Some a
first-placed z a [] = simp (same_self z)
first-placed z a (o ∷ os) = at_head (first-placed z a os) _ refl
  where
    at_head : first_of (mine z (placed z a os)) ≡ Some a → (b : Bool) → bytes_eq z o.zone ≡ b → first_of (mine z (placed z a (o ∷ os))) ≡ Some a
    at_head ih true e = simp (e, same_self z)
    at_head ih false e = simp e ih

pub other-placed : {A : Type 0} (y z : List ℕ) → y ≢ z → (a : A) (os : List (Owned A)) → mine z (placed y a os) ≡ mine z os
other-placed y z n a [] = simp (other_tag y z y n (same_self y))
other-placed y z n a (o ∷ os) = at_head (other-placed y z n a os) _ refl
  where
    at_head : mine z (placed y a os) ≡ mine z os → (b : Bool) → bytes_eq y o.zone ≡ b → mine z (placed y a (o ∷ os)) ≡ mine z (o ∷ os)
    at_head ih true e = simp (e, other_tag y z y n (same_self y), other_tag y z o.zone n e)
    at_head ih false e = simp e (ap (λ ts. cons_option (own z o) ts) ih)
