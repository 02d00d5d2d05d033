-- What each zone holds, after one thing comes to a zone or some things of a zone go.
use Rattle.std.proofs.Common.{◌≡◌, Bool, Option, Some, None, true, false, not, ◌&&◌, ◌||◌, refl, ap, sym, subst, ◌∙◌}
use Rattle.std.specs.Prelude.{◌≢◌, bytes_eq, if◌then◌else◌}
use Rattle.std.proofs.lemmas.Bool.{false_from_ne_true, false≢true, true≢false}
use Rattle.zn_base.specs.Names.{Name}
use Rattle.zone_pools.proofs.Owned_laws.{same_self, same_true}
use Rattle.zone_pools.specs.Owners.{held_by, holding, is_owner}

pub not_same : (z y : Name) → bytes_eq z y ≡ false → y ≢ z
not_same z y e w = true≢false (sym (subst (λ x. bytes_eq z x ≡ true) (sym w) (same_self z)) ∙ e)

-- no other zone owns what a zone owns
other_owner : (y z : Name) → y ≢ z → (o : Option Name) → is_owner z o ≡ true → is_owner y o ≡ false
other_owner y z n None e = absurd (false≢true e)
other_owner y z n (Some x) e = false_from_ne_true (bytes_eq y x) (λ f. n (same_true y x f ∙ sym (same_true z x e)))

module _ {K : Type 0} (z : Name) (has : K → Bool) (old new : K → Option Name) where
  -- z holds other things from now on, and the other zones what they held
  pub column : ((k : K) → is_owner z (new k) ≡ has k) → ((y : Name) → y ≢ z → (k : K) → is_owner y (new k) ≡ is_owner y (old k))
      → (y : Name) (k : K) → held_by new y k ≡ holding z has (held_by old) y k
  column here there y k = at_zone (bytes_eq z y) refl
    where
      at_zone : (b : Bool) → bytes_eq z y ≡ b → is_owner y (new k) ≡ (if b then has k else is_owner y (old k))
      at_zone true e = subst (λ x. is_owner x (new k) ≡ has k) (same_true z y e) (here k)
      at_zone false e = there y (not_same z y e) k

-- nothing comes or goes
pub kept_column : {K : Type 0} (z : Name) (has : K → Bool) (old : K → Option Name) → ((k : K) → has k ≡ is_owner z (old k))
    → (y : Name) (k : K) → held_by old y k ≡ holding z has (held_by old) y k
kept_column z has old agree = column z has old old (λ k. sym (agree k)) (λ y n k. refl)

-- a thing comes to z that nobody held
pub come_column : {K : Type 0} (z : Name) (had has : K → Bool) (old new : K → Option Name) (came : K → Bool)
    → ((k : K) → had k ≡ is_owner z (old k)) → ((k : K) → came k ≡ true → old k ≡ None)
    → ((k : K) → new k ≡ (if came k then Some z else old k)) → ((k : K) → has k ≡ (came k || had k))
    → (y : Name) (k : K) → held_by new y k ≡ holding z has (held_by old) y k
come_column {K} z had has old new came agree free taken more =
    column z has old new (λ k. rw (taken k, more k) (here k (came k))) (λ y n k. rw (taken k) (there y n k (came k) refl))
  where
    here : (k : K) (b : Bool) → is_owner z (if b then Some z else old k) ≡ (b || had k)
    here k true = same_self z
    here k false = sym (agree k)

    there : (y : Name) → y ≢ z → (k : K) (b : Bool) → came k ≡ b → is_owner y (if b then Some z else old k) ≡ is_owner y (old k)
    there y n k true e = other_owner y z n (Some z) (same_self z) ∙ sym (ap (is_owner y) (free k e))
    there y n k false e = refl

-- some things go that z held
pub gone_column : {K : Type 0} (z : Name) (had has gone : K → Bool) (old new : K → Option Name)
    → ((k : K) → had k ≡ is_owner z (old k)) → ((k : K) → gone k ≡ true → had k ≡ true)
    → ((k : K) → new k ≡ (if gone k then None else old k)) → ((k : K) → has k ≡ (had k && not (gone k)))
    → (y : Name) (k : K) → held_by new y k ≡ holding z has (held_by old) y k
gone_column {K} z had has gone old new agree held given less =
    column z has old new (λ k. rw (given k, less k) (here k (gone k) refl)) (λ y n k. rw (given k) (there y n k (gone k) refl))
  where
    none_of : (b : Bool) → false ≡ (b && not true)
    none_of true = refl
    none_of false = refl

    all_of : (b : Bool) → b ≡ (b && not false)
    all_of true = refl
    all_of false = refl

    here : (k : K) (b : Bool) → gone k ≡ b → is_owner z (if b then None else old k) ≡ (had k && not b)
    here k true e = none_of (had k)
    here k false e = sym (agree k) ∙ all_of (had k)

    there : (y : Name) → y ≢ z → (k : K) (b : Bool) → gone k ≡ b → is_owner y (if b then None else old k) ≡ is_owner y (old k)
    there y n k true e = sym (other_owner y z n (old k) (sym (agree k) ∙ held k e))
    there y n k false e = refl
