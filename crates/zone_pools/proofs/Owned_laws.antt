-- What an edit of one zone does to what each zone sees of a flat list.
use Rattle.std.proofs.Common.{◌≡◌, ℕ, List, Bool, true, false, ◌&&◌, ◌||◌, ◌∷◌, [], refl, ap, sym, ◌∙◌}
use Rattle.std.specs.Prelude.{◌≢◌, not, filter, map}
use Rattle.std.specs.List.{cons_option, list_any}
use Rattle.zone_pools.specs.Firsts.{is_nil}
use Rattle.std.specs.Str.{bytes_eq}
use Rattle.std.proofs.lemmas.Slice.Eq.{bytes_eq-Decides}
use Rattle.std.proofs.lemmas.Bool.{false_from_ne_true}
use Rattle.std.proofs.lemmas.List.Elements.{filter_map-append}
use Rattle.std.proofs.lemmas.List.{append-nil}
use Rattle.zone_pools.specs.declared.owned.Owned.{Owned}
use Rattle.zone_pools.specs.Owned_lists.{own, mine, List_edit, Go, Last_goes, Come, Put, Change, Become, but_last, but_last_tagged, changed, edited, edit_list, has_none, tag, put, put_tagged}

pub same_self : (z : List ℕ) → bytes_eq z z ≡ true
same_self z = (bytes_eq-Decides z z).1 refl

pub same_true : (y z : List ℕ) → bytes_eq y z ≡ true → y ≡ z
same_true y z e = (bytes_eq-Decides y z).0 e

pub other_tag : (y z x : List ℕ) → y ≢ z → bytes_eq y x ≡ true → bytes_eq z x ≡ false
other_tag y z x n e = false_from_ne_true (bytes_eq z x) (λ f. n (same_true y x e ∙ sym (same_true z x f)))

-- own
filter_head : {A : Type 0} (z : List ℕ) (keep : Owned A → Bool) (p : A → Bool) (o : Owned A) (os : List (Owned A)) → mine z (filter keep os) ≡ filter p (mine z os)
    → (b q : Bool) → bytes_eq z o.zone ≡ b → keep o ≡ q → (b ≡ true → p o.it ≡ q) → mine z (filter keep (o ∷ os)) ≡ filter p (mine z (o ∷ os))
filter_head z keep p o os ih true true e f h = simp (e, f, h refl) (ap (λ ts. o.it ∷ ts) ih)
filter_head z keep p o os ih true false e f h = simp (e, f, h refl) ih
filter_head z keep p o os ih false true e f h = simp (e, f) ih
filter_head z keep p o os ih false false e f h = simp (e, f) ih

-- a filter by a test that, at z's items, is p of the item
pub mine-filter : {A : Type 0} (z : List ℕ) (keep : Owned A → Bool) (p : A → Bool) → ((o : Owned A) → bytes_eq z o.zone ≡ true → p o.it ≡ keep o)
    → (os : List (Owned A)) → mine z (filter keep os) ≡ filter p (mine z os)
mine-filter z keep p h [] = refl
mine-filter z keep p h (o ∷ os) = filter_head z keep p o os (mine-filter z keep p h os) _ _ refl refl (h o)

-- a filter that keeps all items of z
pub mine-kept : {A : Type 0} (z : List ℕ) (keep : Owned A → Bool) → ((o : Owned A) → bytes_eq z o.zone ≡ true → keep o ≡ true)
    → (os : List (Owned A)) → mine z (filter keep os) ≡ mine z os
mine-kept z keep h [] = refl
mine-kept z keep h (o ∷ os) = at_head (mine-kept z keep h os) _ _ refl refl (h o)
  where
    at_head : mine z (filter keep os) ≡ mine z os → (b q : Bool) → bytes_eq z o.zone ≡ b → keep o ≡ q → (b ≡ true → keep o ≡ true) → mine z (filter keep (o ∷ os)) ≡ mine z (o ∷ os)
    at_head ih true q e f k = simp (e, k refl) (ap (λ ts. o.it ∷ ts) ih)
    at_head ih false true e f k = simp (e, f) ih
    at_head ih false false e f k = simp (e, f) ih

mine-put : {A : Type 0} (z : List ℕ) (before : A → Bool) (a : A) (os : List (Owned A)) → mine z (put_tagged z before a os) ≡ put before a (mine z os)
mine-put z before a [] = simp (same_self z)
mine-put z before a (o ∷ os) = at_head (mine-put z before a os) _ _ refl refl
  where
    at_head : mine z (put_tagged z before a os) ≡ put before a (mine z os) → (b q : Bool) → bytes_eq z o.zone ≡ b → before o.it ≡ q → mine z (put_tagged z before a (o ∷ os)) ≡ put before a (mine z (o ∷ os))
    at_head ih true true e f = simp (e, f) (ap (λ ts. o.it ∷ ts) ih)
    at_head ih true false e f = simp (e, f, same_self z)
    at_head ih false q e f = simp e ih

other-put : {A : Type 0} (y z : List ℕ) → y ≢ z → (before : A → Bool) (a : A) (os : List (Owned A)) → mine z (put_tagged y before a os) ≡ mine z os
other-put y z n before a [] = simp (other_tag y z y n (same_self y))
other-put y z n before a (o ∷ os) = at_head (other-put y z n before a os) _ refl
  where
    at_head : mine z (put_tagged y before a os) ≡ mine z os → (b : Bool) → (bytes_eq y o.zone && not (before o.it)) ≡ b → mine z (put_tagged y before a (o ∷ os)) ≡ mine z (o ∷ os)
    at_head ih true e = simp (e, other_tag y z y n (same_self y))
    at_head ih false e = simp e (ap (λ ts. cons_option (own z o) ts) ih)

-- each of z's becomes another
mine-change : {A : Type 0} (z : List ℕ) (f : A → A) (os : List (Owned A)) → mine z (map (changed z f) os) ≡ map f (mine z os)
mine-change z f [] = refl
mine-change z f (o ∷ os) = at_head (mine-change z f os) _ refl
  where
    at_head : mine z (map (changed z f) os) ≡ map f (mine z os) → (b : Bool) → bytes_eq z o.zone ≡ b → mine z (map (changed z f) (o ∷ os)) ≡ map f (mine z (o ∷ os))
    at_head ih true e = simp e (ap (λ ts. f o.it ∷ ts) ih)
    at_head ih false e = simp e ih

other-change : {A : Type 0} (y z : List ℕ) → y ≢ z → (f : A → A) (os : List (Owned A)) → mine z (map (changed y f) os) ≡ mine z os
other-change y z n f [] = refl
other-change y z n f (o ∷ os) = at_head (other-change y z n f os) _ refl
  where
    at_head : mine z (map (changed y f) os) ≡ mine z os → (b : Bool) → bytes_eq y o.zone ≡ b → mine z (map (changed y f) (o ∷ os)) ≡ mine z (o ∷ os)
    at_head ih true e = simp (e, other_tag y z o.zone n e) ih
    at_head ih false e = simp e (ap (λ ts. cons_option (own z o) ts) ih)

-- the last goes
none-mine : {A : Type 0} (z : List ℕ) (os : List (Owned A)) → has_none z os ≡ true → mine z os ≡ []
none-mine z [] h = refl
none-mine z (o ∷ os) h = at_head (none-mine z os) _ refl h
  where
    at_head : (has_none z os ≡ true → mine z os ≡ []) → (b : Bool) → bytes_eq z o.zone ≡ b → not (b || list_any (λ o. bytes_eq z o.zone) os) ≡ true → mine z (o ∷ os) ≡ []
    at_head ih true e k = absurd (cc)
    at_head ih false e k = simp e (ih k)

some-mine : {A : Type 0} (z : List ℕ) (os : List (Owned A)) → has_none z os ≡ false → is_nil (mine z os) ≡ false
some-mine z [] h = absurd (cc)
some-mine z (o ∷ os) h = at_head (some-mine z os) _ refl h
  where
    at_head : (has_none z os ≡ false → is_nil (mine z os) ≡ false) → (b : Bool) → bytes_eq z o.zone ≡ b → not (b || list_any (λ o. bytes_eq z o.zone) os) ≡ false → is_nil (mine z (o ∷ os)) ≡ false
    at_head ih true e k = simp e
    at_head ih false e k = simp e (ih k)

but-last : {A : Type 0} (x : A) (xs : List A) → is_nil xs ≡ false → but_last (x ∷ xs) ≡ x ∷ but_last xs
but-last x [] h = absurd (cc)
but-last x (y ∷ xs) h = refl

mine-last : {A : Type 0} (z : List ℕ) (os : List (Owned A)) → mine z (but_last_tagged z os) ≡ but_last (mine z os)
mine-last z [] = refl
mine-last z (o ∷ os) = at_head (mine-last z os) _ _ refl refl
  where
    at_head : mine z (but_last_tagged z os) ≡ but_last (mine z os) → (b q : Bool) → bytes_eq z o.zone ≡ b → has_none z os ≡ q → mine z (but_last_tagged z (o ∷ os)) ≡ but_last (mine z (o ∷ os))
    at_head ih true true e f = simp (e, f, none-mine z os f)
    at_head ih true false e f = simp (e, f, but-last o.it (mine z os) (some-mine z os f)) (ap (λ ts. o.it ∷ ts) ih)
    at_head ih false q e f = simp e ih

other-last : {A : Type 0} (y z : List ℕ) → y ≢ z → (os : List (Owned A)) → mine z (but_last_tagged y os) ≡ mine z os
other-last y z n [] = refl
other-last y z n (o ∷ os) = at_head (other-last y z n os) _ _ refl refl
  where
    at_head : mine z (but_last_tagged y os) ≡ mine z os → (b q : Bool) → bytes_eq y o.zone ≡ b → has_none y os ≡ q → mine z (but_last_tagged y (o ∷ os)) ≡ mine z (o ∷ os)
    at_head ih true true e f = simp (e, f, other_tag y z o.zone n e)
    at_head ih true false e f = simp (e, f) (ap (λ ts. cons_option (own z o) ts) ih)
    at_head ih false q e f = simp e (ap (λ ts. cons_option (own z o) ts) ih)

-- all become others
mine-tags : {A : Type 0} (z : List ℕ) (ys : List A) → mine z (map (tag z) ys) ≡ ys
mine-tags z [] = refl
mine-tags z (y ∷ ys) = simp (same_self z) (ap (λ ts. y ∷ ts) (mine-tags z ys))

other-tags : {A : Type 0} (y z : List ℕ) → y ≢ z → (ys : List A) → mine z (map (tag y) ys) ≡ []
other-tags y z n [] = refl
other-tags y z n (x ∷ ys) = simp (other_tag y z y n (same_self y)) (other-tags y z n ys)

none-left : {A : Type 0} (z : List ℕ) (os : List (Owned A)) → mine z (filter (λ o. not (bytes_eq z o.zone)) os) ≡ []
none-left z [] = refl
none-left z (o ∷ os) = at_head (none-left z os) _ refl
  where
    at_head : mine z (filter (λ o. not (bytes_eq z o.zone)) os) ≡ [] → (b : Bool) → bytes_eq z o.zone ≡ b → mine z (filter (λ o. not (bytes_eq z o.zone)) (o ∷ os)) ≡ []
    at_head ih true e = simp e ih
    at_head ih false e = simp e ih

-- the two laws
pub mine-edit : {A : Type 0} (z : List ℕ) (e : List_edit A) (os : List (Owned A)) → mine z (edit_list z e os) ≡ edited e (mine z os)
mine-edit z (Go p) os = mine-filter z (λ o. not (bytes_eq z o.zone && p o.it)) (λ x. not (p x)) (λ o e. simp e) os
mine-edit z Last_goes os = mine-last z os
mine-edit z (Come a) os = rw (filter_map-append (own z) os (tag z a ∷ [])) (simp (same_self z))
mine-edit z (Put before a) os = mine-put z before a os
mine-edit z (Change f) os = mine-change z f os
mine-edit z (Become ys) os = rw (filter_map-append (own z) (filter (λ o. not (bytes_eq z o.zone)) os) (map (tag z) ys)) (rw (none-left z os, mine-tags z ys) refl)

pub other-list : {A : Type 0} (y z : List ℕ) → y ≢ z → (e : List_edit A) (os : List (Owned A)) → mine z (edit_list y e os) ≡ mine z os
other-list y z n (Go p) os = mine-kept z (λ o. not (bytes_eq y o.zone && p o.it)) (λ o e. simp (other_tag z y o.zone (λ w. n (sym w)) e)) os
other-list y z n Last_goes os = other-last y z n os
other-list y z n (Come a) os = rw (filter_map-append (own z) os (tag y a ∷ [])) (simp (other_tag y z y n (same_self y), append-nil (mine z os)))
other-list y z n (Put before a) os = other-put y z n before a os
other-list y z n (Change f) os = other-change y z n f os
other-list y z n (Become ys) os =
    rw (filter_map-append (own z) (filter (λ o. not (bytes_eq y o.zone)) os) (map (tag y) ys))
    (rw (other-tags y z n ys, append-nil (mine z (filter (λ o. not (bytes_eq y o.zone)) os)))
    (mine-kept z (λ o. not (bytes_eq y o.zone)) (λ o e. simp (other_tag z y o.zone (λ w. n (sym w)) e)) os))
