-- The test of `Claims` says which claims are one.
use Rattle.std.proofs.Common.{◌≡◌, ◌&&◌, Bool, Option, Some, None, true, false, refl, ap, subst, ◌∙◌}
use Rattle.std.specs.Prelude.{IfSome, bytes_eq}
use Rattle.std.specs.Bool.{Decides}
use Rattle.std.specs.List.{find}
use Rattle.std.proofs.lemmas.Bool.{and_from, false≢true}
use Rattle.std.proofs.lemmas.Map.Made.{IfSome-find_same}
use Rattle.std.proofs.lemmas.Slice.Eq.{bytes_eq-Decides}
use Rattle.zn_base.proofs.Same_laws.{decides}
use Rattle.zn_base.specs.Names.{Name}
use Rattle.datalink_table.specs.Claims.{same_claim, same_kind}
use Rattle.datalink_table.specs.Shared.{Shared, allows, holder, is_declared, may_hold}
use Rattle.datalink_table.specs.contracts.claims.ClaimKind.{the_type as kind_type}
use Rattle.datalink_table.specs.declared.claims.Claim.{Claim}
use denote.Enum.Bare.{same_true, true_same}

pub both : (a b : Bool) → (a && b) ≡ true → (a ≡ true) × (b ≡ true)
both true b h = (refl, h)
both false b h = absurd (false≢true h)

one : (a b : Claim) → same_claim a b ≡ true → a ≡ b
one a b h =
    let parts : (same_kind a.kind b.kind ≡ true) × (bytes_eq a.item b.item ≡ true) = both _ _ h in
    ap (λ kind. record { kind = kind; item = a.item }) (same_true kind_type tt a.kind b.kind parts.0)
    ∙ ap (λ item. record { kind = b.kind; item = item }) ((bytes_eq-Decides a.item b.item).0 parts.1)

pub claim_self : (a : Claim) → same_claim a a ≡ true
claim_self a = and_from _ _ (true_same kind_type a.kind a.kind refl) ((bytes_eq-Decides a.item a.item).1 refl)

pub claim-Decides : (a b : Claim) → Decides (same_claim a b) (a ≡ b)
claim-Decides = decides same_claim one claim_self

-- an item that is found among the declared ones may be claimed exactly where no other zone holds it
allows_found : (z : Name) (c d : Claim) (s : Shared) → is_declared c s ≡ true → find (same_claim c) s.declared ≡ Some d → may_hold z (holder d s) ≡ allows z c s
allows_found z c d s there found = of_found (find (same_claim c) s.declared) (IfSome-find_same claim-Decides c s.declared) found
  where
    of_found : (o : Option Claim) → IfSome o (λ k. k ≡ c) → o ≡ Some d → may_hold z (holder d s) ≡ allows z c s
    of_found None same e = cc
    of_found (Some k) same e =
        let its : d ≡ c = cc in
        rw there (ap (λ k. may_hold z (holder k s)) its)

-- the same of a shared part that is seen as another value
pub allows_found_in : (z : Name) (c d : Claim) (s t : Shared) → s ≡ t → is_declared c s ≡ true → find (same_claim c) s.declared ≡ Some d → may_hold z (holder d t) ≡ allows z c t
allows_found_in z c d s t same there found = subst (λ s. may_hold z (holder d s) ≡ allows z c s) same (allows_found z c d s there found)
