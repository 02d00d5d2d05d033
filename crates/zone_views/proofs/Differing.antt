-- Numbers of a flat list that differ, and differ still when items go, when one with a new number comes, and when items
-- change that keep their numbers.
use Rattle.std.proofs.Common.{◌≡◌, ◌∷◌, ◌++◌, ◌&&◌, [], ℕ, List, Bool, true, false, map, refl, subst, sym}
use Rattle.std.specs.Prelude.{bytes_eq, filter, nat_eq, not, if◌then◌else◌}
use Rattle.std.specs.List.{AllByRecursion, IsDistinct, list_any}
use Rattle.std.proofs.lemmas.Bool.{eqb-false, eqb-true, false_from_ne_true, or_parts}
use Rattle.zn_base.specs.Names.{Name}
use Rattle.zone_pools.specs.Owned_lists.{Change, edit_list, put_tagged, tag}
use Rattle.zone_pools.specs.declared.owned.Owned.{Owned}
use Rattle.zone_views.specs.Numbers.{AllDiffer}

module _ {A : Type 0} (f : A → ℕ) where
  abbrev numbers : List (Owned A) → List ℕ
  numbers os = map (λ o. f o.it) os

  -- what holds of all numbers
  all-filter : (P : ℕ → Type 0) (keep : Owned A → Bool) (os : List (Owned A)) → AllByRecursion P (numbers os) → AllByRecursion P (numbers (filter keep os))
  all-filter P keep [] h = tt
  all-filter P keep (o ∷ os) h = at_head (keep o) (all-filter P keep os h.1)
    where
      at_head : (b : Bool) → AllByRecursion P (numbers (filter keep os)) → AllByRecursion P (numbers (if b then o ∷ filter keep os else filter keep os))
      at_head true ih = (h.0, ih)
      at_head false ih = ih

  all-put : (P : ℕ → Type 0) (z : Name) (before : A → Bool) (a : A) (os : List (Owned A)) → P (f a) → AllByRecursion P (numbers os) → AllByRecursion P (numbers (put_tagged z before a os))
  all-put P z before a [] p h = (p, tt)
  all-put P z before a (o ∷ os) p h = at_head (bytes_eq z o.zone && not (before o.it)) (all-put P z before a os p h.1)
    where
      at_head : (b : Bool) → AllByRecursion P (numbers (put_tagged z before a os)) → AllByRecursion P (numbers (if b then tag z a ∷ o ∷ os else o ∷ put_tagged z before a os))
      at_head true ih = (p, h)
      at_head false ih = (h.0, ih)

  all-come : (P : ℕ → Type 0) (z : Name) (a : A) (os : List (Owned A)) → P (f a) → AllByRecursion P (numbers os) → AllByRecursion P (numbers (os ++ tag z a ∷ []))
  all-come P z a [] p h = (p, tt)
  all-come P z a (o ∷ os) p h = (h.0, all-come P z a os p h.1)

  -- a number that no item has
  abbrev pub IsNew : ℕ → List (Owned A) → Type 0
  IsNew n os = list_any (λ o. nat_eq (f o.it) n) os ≡ false

  other_way : (m n : ℕ) → nat_eq m n ≡ false → nat_eq n m ≡ false
  other_way m n h = false_from_ne_true (nat_eq n m) (λ e. eqb-false m n h (sym (eqb-true n m e)))

  new-tail : (n : ℕ) (o : Owned A) (os : List (Owned A)) → IsNew n (o ∷ os) → (nat_eq (f o.it) n ≡ false) × IsNew n os
  new-tail n o os h = or_parts (nat_eq (f o.it) n) (list_any (λ o. nat_eq (f o.it) n) os) h

  new-differs : (n : ℕ) (os : List (Owned A)) → IsNew n os → AllByRecursion (λ m. nat_eq n m ≡ false) (numbers os)
  new-differs n [] h = tt
  new-differs n (o ∷ os) h = let parts = new-tail n o os h in (other_way (f o.it) n parts.0, new-differs n os parts.1)

  pub differs-new : (n : ℕ) (os : List (Owned A)) → AllByRecursion (λ m. nat_eq n m ≡ false) (numbers os) → IsNew n os
  differs-new n [] d = refl
  differs-new n (o ∷ os) d = simp (other_way n (f o.it) d.0) (differs-new n os d.1)

  -- items go
  pub new-filter : (n : ℕ) (keep : Owned A → Bool) (os : List (Owned A)) → IsNew n os → IsNew n (filter keep os)
  new-filter n keep [] h = refl
  new-filter n keep (o ∷ os) h = let parts = new-tail n o os h in at_head (keep o) parts.0 (new-filter n keep os parts.1)
    where
      at_head : (b : Bool) → nat_eq (f o.it) n ≡ false → IsNew n (filter keep os) → IsNew n (if b then o ∷ filter keep os else filter keep os)
      at_head true other ih = simp other ih
      at_head false other ih = ih

  pub differ-filter : (keep : Owned A → Bool) (os : List (Owned A)) → AllDiffer (numbers os) → AllDiffer (numbers (filter keep os))
  unfolding IsDistinct
  differ-filter keep [] d = tt
  differ-filter keep (o ∷ os) d = at_head (keep o) (differ-filter keep os d.1)
    where
      at_head : (b : Bool) → AllDiffer (numbers (filter keep os)) → AllDiffer (numbers (if b then o ∷ filter keep os else filter keep os))
      at_head true ih = (all-filter (λ m. nat_eq (f o.it) m ≡ false) keep os d.0, ih)
      at_head false ih = ih

  -- one comes
  pub differ-put : (z : Name) (before : A → Bool) (a : A) (os : List (Owned A)) → IsNew (f a) os → AllDiffer (numbers os) → AllDiffer (numbers (put_tagged z before a os))
  unfolding IsDistinct
  differ-put z before a [] new d = (tt, tt)
  differ-put z before a (o ∷ os) new d = let parts = new-tail (f a) o os new in at_head (bytes_eq z o.zone && not (before o.it)) parts.0 (differ-put z before a os parts.1 d.1)
    where
      at_head : (b : Bool) → nat_eq (f o.it) (f a) ≡ false → AllDiffer (numbers (put_tagged z before a os)) → AllDiffer (numbers (if b then tag z a ∷ o ∷ os else o ∷ put_tagged z before a os))
      at_head true other ih = (new-differs (f a) (o ∷ os) new, d)
      at_head false other ih = (all-put (λ m. nat_eq (f o.it) m ≡ false) z before a os other d.0, ih)

  pub differ-come : (z : Name) (a : A) (os : List (Owned A)) → IsNew (f a) os → AllDiffer (numbers os) → AllDiffer (numbers (os ++ tag z a ∷ []))
  unfolding IsDistinct
  differ-come z a [] new d = (tt, tt)
  differ-come z a (o ∷ os) new d =
      let parts = new-tail (f a) o os new in
      (all-come (λ m. nat_eq (f o.it) m ≡ false) z a os parts.0 d.0, differ-come z a os parts.1 d.1)

  -- each item of a zone becomes another with its number
  kept-numbers : (z : Name) (g : A → A) → ((a : A) → f (g a) ≡ f a) → (os : List (Owned A)) → numbers (edit_list z (Change g) os) ≡ numbers os
  kept-numbers z g keeps [] = refl
  kept-numbers z g keeps (o ∷ os) = λ i. at_head (bytes_eq z o.zone) i ∷ kept-numbers z g keeps os i
    where
      at_head : (b : Bool) → f (if b then record o { it = g o.it } else o).it ≡ f o.it
      at_head true = keeps o.it
      at_head false = refl

  pub differ-change : (z : Name) (g : A → A) → ((a : A) → f (g a) ≡ f a) → (os : List (Owned A)) → AllDiffer (numbers os) → AllDiffer (numbers (edit_list z (Change g) os))
  differ-change z g keeps os d = subst AllDiffer (sym (kept-numbers z g keeps os)) d
