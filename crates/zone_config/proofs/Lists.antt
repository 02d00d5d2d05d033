-- Lists of resources over one that comes, goes or takes another's place.
use Rattle.std.proofs.Common.{◌≡◌, ◌≤◌, ◌+◌, zero, suc, ℕ, Bool, true, false, not, List, [], ◌∷◌, ◌++◌, ◌||◌, ◌&&◌, length, Option, Some, None, refl, ap, sym, ◌∙◌, arith, length-append}
use Rattle.std.specs.Prelude.{slice_get, remove, slice_set}
use Rattle.std.specs.List.{list_all, flat_map}
use Rattle.std.specs.Str.{bytes_eq}
use Rattle.std.proofs.lemmas.Slice.Eq.{bytes_eq-Decides}
use Rattle.std.proofs.lemmas.List.Concat.{flat_map-append}
use Rattle.std.proofs.lemmas.List.Folds.{list_any-append, list_all-append}
use Rattle.config_terms.specs.declared.fields.Field.{Field}
use Rattle.config_terms.specs.declared.terms.Kind.{Kind}
use Rattle.config_terms.specs.Allowed.{are_distinct, are_distinct_in, are_told_apart, has_key, is_allowed, is_taken, is_taken_by, keeps_key, keeps_key_by}
use Rattle.config_terms.specs.Fields.{key_field}
use Rattle.zone_config.specs.Kinds.{Row}
use Rattle.zone_config.specs.Sound.{AreSound, IsWithin, has_few_options}

-- tests joined by `and` and `or`
pub first_true : (a b : Bool) → (a && b) ≡ true → a ≡ true
first_true true b h = refl
first_true false b h = absurd (cc)

pub rest_true : (a b : Bool) → (a && b) ≡ true → b ≡ true
rest_true true b h = h
rest_true false b h = absurd (cc)

pub both_true : (a b : Bool) → a ≡ true → b ≡ true → (a && b) ≡ true
both_true true b h g = g
both_true false b h g = absurd (cc)

pub first_false : (a b : Bool) → (a || b) ≡ false → a ≡ false
first_false true b h = absurd (cc)
first_false false b h = refl

pub rest_false : (a b : Bool) → (a || b) ≡ false → b ≡ false
rest_false true b h = absurd (cc)
rest_false false b h = h

pub both_false : (a b : Bool) → a ≡ false → b ≡ false → (a || b) ≡ false
both_false true b h g = absurd (cc)
both_false false b h g = g

pub false_if_not : (a : Bool) → not a ≡ true → a ≡ false
false_if_not true h = absurd (cc)
false_if_not false h = refl

pub not_if_false : (a : Bool) → a ≡ false → not a ≡ true
not_if_false true h = absurd (cc)
not_if_false false h = refl

pub bytes_eq-swap : (xs ys : List ℕ) → bytes_eq xs ys ≡ false → bytes_eq ys xs ≡ false
bytes_eq-swap xs ys h =
    elim (bytes_eq ys xs) as (λ b. bytes_eq ys xs ≡ b → b ≡ false) [
      | true ↦ λ e. absurd (let same = (bytes_eq-Decides xs ys).1 (sym ((bytes_eq-Decides ys xs).0 e)) in cc)
      | false ↦ λ _. refl
    ] refl

-- each of a list is allowed
pub all-push : {A : Type 0} (p : A → Bool) (xs : List A) (x : A) → list_all p xs ≡ true → p x ≡ true → list_all p (xs ++ x ∷ []) ≡ true
all-push p xs x h g = list_all-append p xs (x ∷ []) ∙ both_true _ _ h (both_true _ _ g refl)

pub all-remove : {A : Type 0} (p : A → Bool) (xs : List A) (i : ℕ) → list_all p xs ≡ true → list_all p (remove xs i) ≡ true
all-remove p [] zero h = refl
all-remove p [] (suc i) h = refl
all-remove p (x ∷ xs) zero h = rest_true (p x) _ h
all-remove p (x ∷ xs) (suc i) h = both_true _ _ (first_true _ _ h) (all-remove p xs i (rest_true (p x) _ h))

pub all-set : {A : Type 0} (p : A → Bool) (xs : List A) (i : ℕ) (x : A) → list_all p xs ≡ true → p x ≡ true → list_all p (slice_set xs i x) ≡ true
all-set p [] i x h g = refl
all-set p (y ∷ ys) zero x h g = both_true _ _ g (rest_true (p y) _ h)
all-set p (y ∷ ys) (suc i) x h g = both_true _ _ (first_true _ _ h) (all-set p ys i x (rest_true (p y) _ h) g)

pub all-at : {A : Type 0} (p : A → Bool) (xs : List A) (i : ℕ) (x : A) → list_all p xs ≡ true → slice_get xs i ≡ Some x → p x ≡ true
all-at p [] i x h g = absurd (cc)
all-at p (y ∷ ys) zero x h g = let same : y ≡ x = cc in ap p (sym same) ∙ first_true _ _ h
all-at p (y ∷ ys) (suc i) x h g = all-at p ys i x (rest_true (p y) _ h) g

pub all-each : {A : Type 0} (p : A → Bool) (xs : List A) → ((x : A) → p x ≡ true) → list_all p xs ≡ true
all-each p [] h = refl
all-each p (x ∷ xs) h = both_true _ _ (h x) (all-each p xs h)

-- no two of a list have one key
has-push : {A : Type 0} (key : A → List ℕ) (k : List ℕ) (xs : List A) (x : A) → has_key key k xs ≡ false → bytes_eq (key x) k ≡ false → has_key key k (xs ++ x ∷ []) ≡ false
has-push key k xs x h e = list_any-append (λ y. bytes_eq (key y) k) xs (x ∷ []) ∙ both_false _ _ h (both_false _ _ e refl)

has-remove : {A : Type 0} (key : A → List ℕ) (k : List ℕ) (xs : List A) (i : ℕ) → has_key key k xs ≡ false → has_key key k (remove xs i) ≡ false
has-remove key k [] zero h = refl
has-remove key k [] (suc i) h = refl
has-remove key k (x ∷ xs) zero h = rest_false (bytes_eq (key x) k) _ h
has-remove key k (x ∷ xs) (suc i) h = both_false _ _ (first_false _ _ h) (has-remove key k xs i (rest_false (bytes_eq (key x) k) _ h))

has-set : {A : Type 0} (key : A → List ℕ) (k : List ℕ) (xs : List A) (i : ℕ) (x : A) → has_key key k xs ≡ false → bytes_eq (key x) k ≡ false → has_key key k (slice_set xs i x) ≡ false
has-set key k [] i x h g = refl
has-set key k (y ∷ ys) zero x h g = both_false _ _ g (rest_false (bytes_eq (key y) k) _ h)
has-set key k (y ∷ ys) (suc i) x h g = both_false _ _ (first_false _ _ h) (has-set key k ys i x (rest_false (bytes_eq (key y) k) _ h) g)

distinct-push : {A : Type 0} (key : A → List ℕ) (xs : List A) (x : A) → are_distinct key xs ≡ true → has_key key (key x) xs ≡ false → are_distinct key (xs ++ x ∷ []) ≡ true
distinct-push key [] x h g = refl
distinct-push key (y ∷ ys) x h g =
    both_true _ _
    (not_if_false _ (has-push key (key y) ys x (false_if_not _ (first_true _ _ h)) (bytes_eq-swap (key y) (key x) (first_false _ _ g))))
    (distinct-push key ys x (rest_true (not (has_key key (key y) ys)) _ h) (rest_false (bytes_eq (key y) (key x)) _ g))

distinct-remove : {A : Type 0} (key : A → List ℕ) (xs : List A) (i : ℕ) → are_distinct key xs ≡ true → are_distinct key (remove xs i) ≡ true
distinct-remove key [] zero h = refl
distinct-remove key [] (suc i) h = refl
distinct-remove key (x ∷ xs) zero h = rest_true (not (has_key key (key x) xs)) _ h
distinct-remove key (x ∷ xs) (suc i) h =
    both_true _ _
    (not_if_false _ (has-remove key (key x) xs i (false_if_not _ (first_true _ _ h))))
    (distinct-remove key xs i (rest_true (not (has_key key (key x) xs)) _ h))

distinct-set : {A : Type 0} (key : A → List ℕ) (xs : List A) (i : ℕ) (x : A) → are_distinct key xs ≡ true → has_key key (key x) (remove xs i) ≡ false → are_distinct key (slice_set xs i x) ≡ true
distinct-set key [] i x h g = refl
distinct-set key (y ∷ ys) zero x h g = both_true _ _ (not_if_false _ g) (rest_true (not (has_key key (key y) ys)) _ h)
distinct-set key (y ∷ ys) (suc i) x h g =
    both_true _ _
    (not_if_false _ (has-set key (key y) ys i x (false_if_not _ (first_true _ _ h)) (bytes_eq-swap (key y) (key x) (first_false _ _ g))))
    (distinct-set key ys i x (rest_true (not (has_key key (key y) ys)) _ h) (rest_false (bytes_eq (key y) (key x)) _ g))

key-other : {A : Type 0} (key : A → List ℕ) (k : List ℕ) (xs : List A) (i : ℕ) (x : A) → has_key key k xs ≡ false → slice_get xs i ≡ Some x → bytes_eq (key x) k ≡ false
key-other key k [] i x h e = absurd (cc)
key-other key k (y ∷ ys) zero x h e = let same : y ≡ x = cc in ap (λ z. bytes_eq (key z) k) (sym same) ∙ first_false _ _ h
key-other key k (y ∷ ys) (suc i) x h e = key-other key k ys i x (rest_false (bytes_eq (key y) k) _ h) e

-- no other has the key of one of them
distinct-others : {A : Type 0} (key : A → List ℕ) (xs : List A) (i : ℕ) (x : A) → are_distinct key xs ≡ true → slice_get xs i ≡ Some x → has_key key (key x) (remove xs i) ≡ false
distinct-others key [] i x h e = absurd (cc)
distinct-others key (y ∷ ys) zero x h e =
    let same : y ≡ x = cc in ap (λ z. has_key key (key z) ys) (sym same) ∙ false_if_not _ (first_true _ _ h)
distinct-others key (y ∷ ys) (suc i) x h e =
    both_false _ _
    (bytes_eq-swap (key x) (key y) (key-other key (key y) ys i x (false_if_not _ (first_true _ _ h)) e))
    (distinct-others key ys i x (rest_true (not (has_key key (key y) ys)) _ h) e)

-- the same where a kind may have no key
apart-push : {A : Type 0} (shown : A → Field → List ℕ) (o : Option Field) (xs : List A) (x : A) → are_distinct_in shown o xs ≡ true → is_taken_by shown o x xs ≡ false → are_distinct_in shown o (xs ++ x ∷ []) ≡ true
apart-push shown None xs x h g = refl
apart-push shown (Some f) xs x h g = distinct-push (λ y. shown y f) xs x h g

apart-remove : {A : Type 0} (shown : A → Field → List ℕ) (o : Option Field) (xs : List A) (i : ℕ) → are_distinct_in shown o xs ≡ true → are_distinct_in shown o (remove xs i) ≡ true
apart-remove shown None xs i h = refl
apart-remove shown (Some f) xs i h = distinct-remove (λ y. shown y f) xs i h

apart-set : {A : Type 0} (shown : A → Field → List ℕ) (o : Option Field) (xs : List A) (i : ℕ) (x : A) → are_distinct_in shown o xs ≡ true → is_taken_by shown o x (remove xs i) ≡ false → are_distinct_in shown o (slice_set xs i x) ≡ true
apart-set shown None xs i x h g = refl
apart-set shown (Some f) xs i x h g = distinct-set (λ y. shown y f) xs i x h g

pub apart-kept : {A : Type 0} (shown : A → Field → List ℕ) (k : Kind) (xs : List A) (i : ℕ) (x y : A) → are_told_apart shown k xs ≡ true → slice_get xs i ≡ Some y → keeps_key shown k x y ≡ true → is_taken shown k x (remove xs i) ≡ false
apart-kept shown k xs i x y h e s = apart_in (key_field k) h s where
  apart_in : (o : Option Field) → are_distinct_in shown o xs ≡ true → keeps_key_by shown o x y ≡ true → is_taken_by shown o x (remove xs i) ≡ false
  apart_in None h s = refl
  apart_in (Some f) h s =
      let same : shown x f ≡ shown y f = (bytes_eq-Decides (shown x f) (shown y f)).0 s in
      ap (λ k. has_key (λ z. shown z f) k (remove xs i)) same ∙ distinct-others (λ z. shown z f) xs i y h e

-- how many there are
pub length-remove_one : {A : Type 0} (xs : List A) (i : ℕ) (x : A) → slice_get xs i ≡ Some x → length (remove xs i) + 1 ≡ length xs
length-remove_one [] i x h = absurd (cc)
length-remove_one (y ∷ ys) zero x h = omega arith
length-remove_one (y ∷ ys) (suc i) x h = let more = length-remove_one ys i x h in omega arith

pub length-slice_set : {A : Type 0} (xs : List A) (i : ℕ) (x : A) → length (slice_set xs i x) ≡ length xs
length-slice_set [] i x = refl
length-slice_set (y ∷ ys) zero x = refl
length-slice_set (y ∷ ys) (suc i) x = ap suc (length-slice_set ys i x)

length-remove_less : {A : Type 0} (xs : List A) (i : ℕ) → length (remove xs i) ≤ length xs
length-remove_less [] zero = omega arith
length-remove_less [] (suc i) = omega arith
length-remove_less (y ∷ ys) zero = omega arith
length-remove_less (y ∷ ys) (suc i) = let more = length-remove_less ys i in omega arith

-- a bound keeps what is less, too
within_less : (most : Option ℕ) (m n : ℕ) → m ≤ n → IsWithin most n → IsWithin most m
within_less None m n h w = tt
within_less (Some most) m n h w = omega arith

-- a sound list stays sound
module _ {A : Type 0} (row : Row A) (xs : List A) (s : AreSound row xs) where
  pub sound-push : (x : A) → is_allowed (row.make x) ≡ true → has_few_options (row.make x) ≡ true → is_taken row.shown row.kind x xs ≡ false → IsWithin row.most (length xs + 1)
      → AreSound row (xs ++ x ∷ [])
  sound-push x allowed few free room = record {
    each = all-push (λ y. is_allowed (row.make y)) xs x s.each allowed;
    few_options = all-push (λ y. has_few_options (row.make y)) xs x s.few_options few;
    once = apart-push row.shown (key_field row.kind) xs x s.once free;
    few = rw (length-append xs (x ∷ [])) room;
  }

  pub sound-remove : (i : ℕ) → AreSound row (remove xs i)
  sound-remove i = record {
    each = all-remove (λ y. is_allowed (row.make y)) xs i s.each;
    few_options = all-remove (λ y. has_few_options (row.make y)) xs i s.few_options;
    once = apart-remove row.shown (key_field row.kind) xs i s.once;
    few = within_less row.most (length (remove xs i)) (length xs) (length-remove_less xs i) s.few;
  }

  pub sound-set : (i : ℕ) (x : A) → is_allowed (row.make x) ≡ true → has_few_options (row.make x) ≡ true → is_taken row.shown row.kind x (remove xs i) ≡ false → AreSound row (slice_set xs i x)
  sound-set i x allowed few free = record {
    each = all-set (λ y. is_allowed (row.make y)) xs i x s.each allowed;
    few_options = all-set (λ y. has_few_options (row.make y)) xs i x s.few_options few;
    once = apart-set row.shown (key_field row.kind) xs i x s.once free;
    few = rw (length-slice_set xs i x) s.few;
  }

-- how long the texts of a list are
pub text-push : {A : Type 0} (f : A → List ℕ) (xs : List A) (x : A) → length (flat_map f (xs ++ x ∷ [])) ≡ length (flat_map f xs) + length (f x)
text-push f xs x = ap length (flat_map-append f xs (x ∷ [])) ∙ omega (arith, length-append (flat_map f xs) (f x ++ []), length-append (f x) [])

pub text-remove : {A : Type 0} (f : A → List ℕ) (xs : List A) (i : ℕ) (x : A) → slice_get xs i ≡ Some x → length (flat_map f (remove xs i)) + length (f x) ≡ length (flat_map f xs)
text-remove f [] i x h = absurd (cc)
text-remove f (y ∷ ys) zero x h =
    let same : y ≡ x = cc in rw same (omega (arith, length-append (f x) (flat_map f ys)))
text-remove f (y ∷ ys) (suc i) x h =
    let more = text-remove f ys i x h in omega (arith, length-append (f y) (flat_map f (remove ys i)), length-append (f y) (flat_map f ys))

pub text-set : {A : Type 0} (f : A → List ℕ) (xs : List A) (i : ℕ) (x y : A) → slice_get xs i ≡ Some y → length (flat_map f (slice_set xs i x)) + length (f y) ≡ length (flat_map f xs) + length (f x)
text-set f [] i x y h = absurd (cc)
text-set f (z ∷ zs) zero x y h =
    let same : z ≡ y = cc in rw same (omega (arith, length-append (f x) (flat_map f zs), length-append (f y) (flat_map f zs)))
text-set f (z ∷ zs) (suc i) x y h =
    let more = text-set f zs i x y h in omega (arith, length-append (f z) (flat_map f (slice_set zs i x)), length-append (f z) (flat_map f zs))

pub text_within : {A : Type 0} (f : A → List ℕ) (xs : List A) (i : ℕ) (x : A) → slice_get xs i ≡ Some x → length (f x) ≤ length (flat_map f xs)
text_within f xs i x h = omega (arith, text-remove f xs i x h)
