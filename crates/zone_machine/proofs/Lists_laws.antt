-- Lists of what a zone has, after something comes or all goes.
use Rattle.std.proofs.Common.{◌≡◌, ◌+◌, ◌<◌, ◌∷◌, ◌++◌, [], suc, not, nat_lt, cond, ◌||◌, ℕ, Bool, List, Option, Some, None, true, false, filter, length, refl, ap, sym, arith, ◌∙◌}
use Rattle.std.specs.Prelude.{position, if◌then◌else◌}
use Rattle.std.specs.List.{insert, list_any, position_or_len}
use Rattle.std.specs.Option.{option_map}
use Rattle.std.proofs.lemmas.Bool.{ltb-true, ltb-false, lt-ltb, le-ltb}
use Rattle.zone_pools.specs.Owned_lists.{put}

-- where the first that passes a test stands
module _ {A : Type 0} (p : A → Bool) where
  position-here : (x : A) (xs : List A) → p x ≡ true → position p (x ∷ xs) ≡ Some 0
  position-here x xs h = let l : 0 < length (x ∷ xs) = omega arith in simp h (rw (lt-ltb 0 (length (x ∷ xs)) l) refl)

  position-later : (x : A) (xs : List A) → p x ≡ false → position p (x ∷ xs) ≡ option_map (λ i. 1 + i) (position p xs)
  position-later x xs h = simp h (at_test (nat_lt (position_or_len p xs) (length xs)) refl)
    where
      at_test : (b : Bool) → nat_lt (position_or_len p xs) (length xs) ≡ b
          → cond (nat_lt (1 + position_or_len p xs) (length (x ∷ xs))) (Some (1 + position_or_len p xs)) None ≡ option_map (λ i. 1 + i) (cond b (Some (position_or_len p xs)) None)
      at_test true e = let l = ltb-true (position_or_len p xs) (length xs) e in rw (lt-ltb (1 + position_or_len p xs) (length (x ∷ xs)) (omega arith)) refl
      at_test false e = let l = ltb-false (position_or_len p xs) (length xs) e in rw (le-ltb (1 + position_or_len p xs) (length (x ∷ xs)) (omega arith)) refl

-- something is put in front of the first that doesn't stand before it, or at the end
pub put-at : {A : Type 0} (before : A → Bool) (a : A) (xs : List A) (i : ℕ) → position (λ x. not (before x)) xs ≡ Some i → put before a xs ≡ insert xs i a
put-at before a [] i h = absurd (cc)
put-at {A} before a (x ∷ xs) i h = at_head (put-at before a xs) (before x) refl
  where
    at_rest : before x ≡ true → (r : Option ℕ) → position (λ x. not (before x)) xs ≡ r → option_map (λ i. 1 + i) r ≡ Some i → ((i : ℕ) → position (λ x. not (before x)) xs ≡ Some i → put before a xs ≡ insert xs i a) → put before a (x ∷ xs) ≡ insert (x ∷ xs) i a
    at_rest e None f g ih = absurd (cc)
    at_rest e (Some j) f g ih = let is : i ≡ suc j = omega (arith, g') in rw is (simp e (ap (λ xs. x ∷ xs) (ih j f)))
      where
        g' : 1 + j ≡ i
        g' = cc

    at_head : ((i : ℕ) → position (λ x. not (before x)) xs ≡ Some i → put before a xs ≡ insert xs i a) → (b : Bool) → before x ≡ b → put before a (x ∷ xs) ≡ insert (x ∷ xs) i a
    at_head ih false e =
        let is : i ≡ 0 = zero_is (sym (position-here (λ x. not (before x)) x xs (ap not e)) ∙ h) in
        rw is (simp e)
      where
        zero_is : Some 0 ≡ Some i → i ≡ 0
        zero_is g = cc
    at_head ih true e = at_rest e (position (λ x. not (before x)) xs) refl (sym (position-later (λ x. not (before x)) x xs (ap not e)) ∙ h) ih

pub put-nowhere : {A : Type 0} (before : A → Bool) (a : A) (xs : List A) → position (λ x. not (before x)) xs ≡ None → put before a xs ≡ xs ++ a ∷ []
put-nowhere before a [] h = refl
put-nowhere {A} before a (x ∷ xs) h = at_head (put-nowhere before a xs) (before x) refl
  where
    at_rest : before x ≡ true → (r : Option ℕ) → position (λ x. not (before x)) xs ≡ r → option_map (λ i. 1 + i) r ≡ None → (position (λ x. not (before x)) xs ≡ None → put before a xs ≡ xs ++ a ∷ []) → put before a (x ∷ xs) ≡ (x ∷ xs) ++ a ∷ []
    at_rest e None f g ih = simp e (ap (λ xs. x ∷ xs) (ih f))
    at_rest e (Some j) f g ih = absurd (cc)

    at_head : (position (λ x. not (before x)) xs ≡ None → put before a xs ≡ xs ++ a ∷ []) → (b : Bool) → before x ≡ b → put before a (x ∷ xs) ≡ (x ∷ xs) ++ a ∷ []
    at_head ih false e = absurd (none_is (sym (position-here (λ x. not (before x)) x xs (ap not e)) ∙ h))
      where
        none_is : ◌≡◌ {A = Option ℕ} (Some 0) None → ⊥
        none_is g = cc
    at_head ih true e = at_rest e (position (λ x. not (before x)) xs) refl (sym (position-later (λ x. not (before x)) x xs (ap not e)) ∙ h) ih

-- what is among some things, after one comes or all go
or_swap : (a b c : Bool) → (a || (b || c)) ≡ (b || (a || c))
or_swap true true c = refl
or_swap true false c = refl
or_swap false true c = refl
or_swap false false c = refl

pub any-put : {A : Type 0} (p : A → Bool) (before : A → Bool) (a : A) (xs : List A) → list_any p (put before a xs) ≡ (p a || list_any p xs)
any-put p before a [] = refl
any-put p before a (x ∷ xs) = at_head (any-put p before a xs) (before x)
  where
    at_head : list_any p (put before a xs) ≡ (p a || list_any p xs) → (b : Bool) → list_any p (if b then x ∷ put before a xs else a ∷ x ∷ xs) ≡ (p a || (p x || list_any p xs))
    at_head ih true = ap (λ c. p x || c) ih ∙ or_swap (p x) (p a) (list_any p xs)
    at_head ih false = refl

pub any-push : {A : Type 0} (p : A → Bool) (xs : List A) (a : A) → list_any p (xs ++ a ∷ []) ≡ (p a || list_any p xs)
any-push p [] a = refl
any-push p (x ∷ xs) a = ap (λ c. p x || c) (any-push p xs a) ∙ or_swap (p x) (p a) (list_any p xs)

pub none_left : {A : Type 0} (xs : List A) → filter (λ x. not true) xs ≡ []
none_left [] = refl
none_left (x ∷ xs) = none_left xs
