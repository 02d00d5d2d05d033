-- What becomes of the shared part, in several steps.
use Rattle.std.proofs.Common.{◌≡◌, Bool, Option, None, Some, true, false, is_some, refl, ap, sym, subst, ◌∙◌}
use Rattle.std.specs.Prelude.{if◌then◌else◌}
use Rattle.zn_base.specs.Names.{Name}
use Rattle.std.proofs.lemmas.Bool.{false≢true}
use Rattle.zone_pools.proofs.Owned_laws.{same_true}
use Rattle.datalink_table.proofs.Same_laws.{both, claim-Decides}
use Rattle.datalink_table.specs.Claims.{same_claim}
use Rattle.datalink_table.specs.Shared.{Alike, Shared, Takes, allows, holder, is_held, may_hold}
use Rattle.datalink_table.specs.declared.claims.Claim.{Claim}

-- room is made, and then a zone holds an item
took_item : (z : Name) (c : Claim) (s t u : Shared) → Alike s t → Takes z c t u → Takes z c s u
took_item z c s t u alike took = record {
  declared = took.declared ∙ alike.declared;
  holders = λ d. took.holders d ∙ ap (λ o. if same_claim c d then Some z else o) (alike.holders d);
}

-- the same of a claim that was made ready
pub took : (y z : Name) (b c : Claim) (s t u : Shared) → y ≡ z → b ≡ c → Alike s t → Takes y b t u → Takes z c s u
took y z b c s t u named made alike taken = took_item z c s t u alike (subst (λ c. Takes z c t u) made (subst (λ z. Takes z b t u) named taken))

-- what a zone holds that it may claim stays its own
pub held_already : (z : Name) (c : Claim) (s : Shared) → allows z c s ≡ true → is_held c s ≡ true → Takes z c s s
held_already z c s may held = record { declared = refl; holders = λ d. at_item d _ refl }
  where
    its : (o : Option Name) → may_hold z o ≡ true → is_some o ≡ true → o ≡ Some z
    its None h k = absurd (false≢true k)
    its (Some y) h k = ap (λ x. Some x) (sym (same_true z y h))

    at_item : (d : Claim) (b : Bool) → same_claim c d ≡ b → holder d s ≡ (if b then Some z else holder d s)
    at_item d true e = subst (λ d. holder d s ≡ Some z) ((claim-Decides c d).0 e) (its (holder c s) (both _ _ may).1 held)
    at_item d false e = refl
