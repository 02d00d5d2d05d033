-- Sums over views, and the entries of one pass.
use Rattle.std.proofs.Common.{◌≡◌, ◌≢◌, ◌⊎◌, inl, inr, ⊎_elim, ℕ, ◌+◌, ◌<◌, ◌≤◌, ◌==◌, true, false, List, [], ◌∷◌, ◌++◌, length, set, sym, refl, ap, ◌∙◌, arith, zero, suc}
use Rattle.std.proofs.lemmas.List.Elements.{filter-append}
use Rattle.std.proofs.lemmas.Bool.Decides.{nat_tests}
use Rattle.std.proofs.lemmas.List.{append-nil, append_assoc}
use Rattle.std.specs.List.{All}
use mathlib.Core.Option.{some, some-injective, some-ne-none}
use lib.ListN.{get_elem?}
use Rattle.zone_turn.specs.Histories.{joined, own}
use Rattle.zone_turn.specs.Rule.{total}

module _ {A : Type 0} where
  pub total_set : (f : A → ℕ) (xs : List A) (i : ℕ) (v w : A) → get_elem? xs i ≡ some v → total f (set xs i w) + f v ≡ total f xs + f w
  total_set f [] i v w e = absurd (some-ne-none v (sym e))
  total_set f (x ∷ xs) zero v w e = let h : f x ≡ f v = ap f (some-injective x v e) in omega arith
  total_set f (x ∷ xs) (suc i) v w e = let h = total_set f xs i v w e in omega arith

  pub total_push : (f : A → ℕ) (xs : List A) (w : A) → total f (xs ++ w ∷ []) ≡ total f xs + f w
  total_push f [] w = omega arith
  total_push f (x ∷ xs) w = let h = total_push f xs w in omega arith

  pub total_le : (f g : A → ℕ) → ((a : A) → f a ≤ g a) → (xs : List A) → total f xs ≤ total g xs
  total_le f g le [] = omega arith
  total_le f g le (x ∷ xs) = let h = total_le f g le xs in let k = le x in omega arith

  pub total_at : (f : A → ℕ) (xs : List A) (i : ℕ) (v : A) → get_elem? xs i ≡ some v → f v ≤ total f xs
  total_at f [] i v e = absurd (some-ne-none v (sym e))
  total_at f (x ∷ xs) zero v e = let h : f x ≡ f v = ap f (some-injective x v e) in omega arith
  total_at f (x ∷ xs) (suc i) v e = let h = total_at f xs i v e in omega arith

  pub total_two : (f : A → ℕ) (xs : List A) (i j : ℕ) (v w : A) → get_elem? xs i ≡ some v → get_elem? xs j ≡ some w → i ≢ j → f v + f w ≤ total f xs
  total_two f [] i j v w e d n = absurd (some-ne-none v (sym e))
  total_two f (x ∷ xs) zero zero v w e d n = absurd (n refl)
  total_two f (x ∷ xs) zero (suc j) v w e d n = let h : f x ≡ f v = ap f (some-injective x v e) in let k = total_at f xs j w d in omega arith
  total_two f (x ∷ xs) (suc i) zero v w e d n = let h : f x ≡ f w = ap f (some-injective x w d) in let k = total_at f xs i v e in omega arith
  total_two f (x ∷ xs) (suc i) (suc j) v w e d n = let h = total_two f xs i j v w e d (λ q. n (ap suc q)) in omega arith

  pub inside : (xs : List A) (i : ℕ) (v : A) → get_elem? xs i ≡ some v → i < length xs
  inside [] i v e = absurd (some-ne-none v (sym e))
  inside (x ∷ xs) zero v e = omega arith
  inside (x ∷ xs) (suc i) v e = let h = inside xs i v e in omega arith

  pub set_only : (xs : List A) (a : A) → length xs ≡ 1 → set xs 0 a ≡ a ∷ []
  set_only [] a e = absurd (omega arith)
  set_only (x ∷ []) a e = refl
  set_only (x ∷ y ∷ ys) a e = absurd (omega arith)

  pub found_at : (xs : List A) (i : ℕ) → i < length xs → (a : A) × (get_elem? xs i ≡ some a)
  found_at [] i near = absurd (omega arith)
  found_at (x ∷ xs) zero near = (x, refl)
  found_at (x ∷ xs) (suc i) near = found_at xs i (omega arith)

  pub at_end : (xs : List A) (a b : A) (j : ℕ) → get_elem? (xs ++ a ∷ []) j ≡ some b → (get_elem? xs j ≡ some b) ⊎ ((j ≡ length xs) × (a ≡ b))
  at_end [] a b zero e = inr (refl, some-injective a b e)
  at_end [] a b (suc j) e = absurd (some-ne-none b (sym e))
  at_end (x ∷ xs) a b zero e = inl e
  at_end (x ∷ xs) a b (suc j) e = ⊎_elim (λ h. inl h) (λ h. inr (let k = h.0 in omega arith, h.1)) (at_end xs a b j e)

  pub one_answer : (xs : List A) (i j : ℕ) (v w : A) → i ≡ j → get_elem? xs i ≡ some v → get_elem? xs j ≡ some w → v ≡ w
  one_answer xs i j v w same e d = some-injective v w (sym e ∙ (ap (get_elem? xs) same ∙ d))

module _ {E : Type 0} where
  pub joined_push : (bs : List (List E)) (b : List E) → joined (bs ++ b ∷ []) ≡ joined bs ++ b
  joined_push [] b = append-nil b
  joined_push (x ∷ xs) b = ap (λ l. x ++ l) (joined_push xs b) ∙ sym (append_assoc x (joined xs) b)

  module _ (belongs : E → ℕ) where
    pub own_append : (n : ℕ) (xs ys : List E) → own belongs n (xs ++ ys) ≡ own belongs n xs ++ own belongs n ys
    own_append n xs ys = filter-append (λ e. belongs e == n) xs ys

    pub own_all : (n : ℕ) (b : List E) → All (λ e. belongs e ≡ n) b → own belongs n b ≡ b
    own_all n [] all = refl
    own_all n (x ∷ xs) all = let h : (belongs x == n) ≡ true = (let e = all 0 x (omega arith) in grind (arith, nat_tests)) in rw h (ap (λ l. x ∷ l) (own_all n xs (λ k d l. all (suc k) d (omega arith))))

    pub own_none : (n m : ℕ) (b : List E) → All (λ e. belongs e ≡ n) b → n ≢ m → own belongs m b ≡ []
    own_none n m [] all other = refl
    own_none n m (x ∷ xs) all other = let h : (belongs x == m) ≡ false = (let e = all 0 x (omega arith) in grind (arith, nat_tests)) in rw h (own_none n m xs (λ k d l. all (suc k) d (omega arith)) other)

    pub own_more : (n m : ℕ) (h b : List E) → All (λ e. belongs e ≡ n) b → n ≢ m → own belongs m (h ++ b) ≡ own belongs m h
    own_more n m h b all other = own_append m h b ∙ (ap (λ l. own belongs m h ++ l) (own_none n m b all other) ∙ append-nil (own belongs m h))
