-- Lists without an item twice, in other orders.
use Rattle.std.proofs.Common.{◌≡◌, ℕ, suc, List, [], ◌∷◌, ◌++◌, not, Bool, true, false, ◌||◌, ◌&&◌, bytes_eq, length, if◌then◌else◌, ap, sym, refl, ◌∙◌, true≢false}
use Rattle.std.specs.List.{list_any}
use Rattle.std.proofs.lemmas.List.Folds.{list_any-append}
use Rattle.loopback_mounts.proofs.Orders.{bytes_itself, bytes_same}
use Rattle.loopback_mounts.specs.Mounts.{precedes}
use Rattle.zone_pools.specs.Owned_lists.{put}
use Rattle.zoneadmd_laws.specs.Lists.{all_differ}
use Rattle.zoneadmd_steps.specs.Configs.{in_order}

-- tests, in other orders
or_swap : (a b c : Bool) → (a || (b || c)) ≡ (b || (a || c))
or_swap true true c = refl
or_swap true false c = refl
or_swap false true c = refl
or_swap false false c = refl

or_turn : (a b : Bool) → (a || b) ≡ (b || a)
or_turn true true = refl
or_turn true false = refl
or_turn false true = refl
or_turn false false = refl

shuffle : (a b c d : Bool) → (not (a || b) && (not c && d)) ≡ (not (a || c) && (not b && d))
shuffle true b c d = refl
shuffle false true true d = refl
shuffle false true false d = refl
shuffle false false true d = refl
shuffle false false false d = refl

any_move : {A : Type 0} (p : A → Bool) (x : A) (xs ys : List A) → list_any p (xs ++ x ∷ ys) ≡ (p x || list_any p (xs ++ ys))
any_move p x [] ys = refl
any_move p x (y ∷ xs) ys = ap (λ b. p y || b) (any_move p x xs ys) ∙ or_swap (p y) (p x) (list_any p (xs ++ ys))

pub any_put : {A : Type 0} (p q : A → Bool) (x : A) (ys : List A) → list_any p (put q x ys) ≡ (p x || list_any p ys)
any_put p q x [] = refl
any_put p q x (y ∷ ys) = go (q y) (any_put p q x ys)
  where
    go : (b : Bool) → list_any p (put q x ys) ≡ (p x || list_any p ys) → list_any p (if b then y ∷ put q x ys else x ∷ y ∷ ys) ≡ (p x || (p y || list_any p ys))
    go true h = ap (λ b. p y || b) h ∙ or_swap (p y) (p x) (list_any p ys)
    go false h = refl

module _ {A : Type 0} (eq : A → A → Bool) (turned : (x y : A) → eq x y ≡ eq y x) where
  -- one of a list comes to its front
  pub move : (x : A) (xs ys : List A) → all_differ eq (xs ++ x ∷ ys) ≡ all_differ eq (x ∷ (xs ++ ys))
  move x [] ys = refl
  move x (y ∷ xs) ys =
      (λ i. not (any_move (eq y) x xs ys i) && move x xs ys i)
      ∙ (shuffle (eq y x) (list_any (eq y) (xs ++ ys)) (list_any (eq x) (xs ++ ys)) (all_differ eq (xs ++ ys))
      ∙ ap (λ b. not (b || list_any (eq x) (xs ++ ys)) && (not (list_any (eq y) (xs ++ ys)) && all_differ eq (xs ++ ys))) (turned y x))

  pub put_differs : (q : A → Bool) (x : A) (ys : List A) → all_differ eq (put q x ys) ≡ all_differ eq (x ∷ ys)
  put_differs q x [] = refl
  put_differs q x (y ∷ ys) = go (q y) (put_differs q x ys)
    where
      go : (b : Bool) → all_differ eq (put q x ys) ≡ all_differ eq (x ∷ ys) → all_differ eq (if b then y ∷ put q x ys else x ∷ y ∷ ys) ≡ all_differ eq (x ∷ y ∷ ys)
      go false h = refl
      go true h =
          (λ i. not (any_put (eq y) q x ys i) && h i)
          ∙ (shuffle (eq y x) (list_any (eq y) ys) (list_any (eq x) ys) (all_differ eq ys)
          ∙ ap (λ b. not (b || list_any (eq x) ys) && (not (list_any (eq y) ys) && all_differ eq ys)) (turned y x))

  pub turn_round : (xs ys : List A) → all_differ eq (xs ++ ys) ≡ all_differ eq (ys ++ xs)
  turn_round [] [] = refl
  turn_round [] (y ∷ ys) = ap (λ b. not b && all_differ eq ys) (list_none (eq y) ys) ∙ ap (λ b. not (list_any (eq y) (ys ++ [])) && b) (turn_round [] ys)
    where
      list_none : (p : A → Bool) (ys : List A) → list_any p ys ≡ list_any p (ys ++ [])
      list_none p [] = refl
      list_none p (y ∷ ys) = ap (λ b. p y || b) (list_none p ys)
  turn_round (x ∷ xs) ys =
      (λ i. not ((list_any-append (eq x) xs ys ∙ (or_turn (list_any (eq x) xs) (list_any (eq x) ys) ∙ sym (list_any-append (eq x) ys xs))) i) && turn_round xs ys i)
      ∙ sym (move x ys xs)

  pub differ_end : (xs ys : List A) → all_differ eq (xs ++ ys) ≡ true → all_differ eq ys ≡ true
  differ_end [] ys h = h
  differ_end (x ∷ xs) ys h = differ_end xs ys (both (not (list_any (eq x) (xs ++ ys))) (all_differ eq (xs ++ ys)) h)
    where
      both : (a b : Bool) → (a && b) ≡ true → b ≡ true
      both true b h = h
      both false b h = absurd (true≢false (sym h))

pub bytes_turned : (a b : List ℕ) → bytes_eq a b ≡ bytes_eq b a
bytes_turned a b = go (bytes_eq a b) (bytes_eq b a) refl refl
  where
    go : (x y : Bool) → bytes_eq a b ≡ x → bytes_eq b a ≡ y → x ≡ y
    go true true h k = refl
    go false false h k = refl
    go true false h k = sym (ap (λ c. bytes_eq b c) (bytes_same a b h) ∙ bytes_itself b) ∙ k
    go false true h k = sym h ∙ (ap (λ c. bytes_eq c b) (sym (bytes_same b a k)) ∙ bytes_itself b)

-- paths in byte order
pub any_ordered : (p : List ℕ → Bool) (ds : List (List ℕ)) → list_any p (in_order ds) ≡ list_any p ds
any_ordered p [] = refl
any_ordered p (d ∷ ds) = any_put p (λ other. precedes other d) d (in_order ds) ∙ ap (λ b. p d || b) (any_ordered p ds)

pub ordered_differ : (ds : List (List ℕ)) → all_differ bytes_eq (in_order ds) ≡ all_differ bytes_eq ds
ordered_differ [] = refl
ordered_differ (d ∷ ds) = put_differs bytes_eq bytes_turned (λ other. precedes other d) d (in_order ds) ∙ (λ i. not (any_ordered (bytes_eq d) ds i) && ordered_differ ds i)

put_length : {A : Type 0} (p : A → Bool) (x : A) (xs : List A) → length (put p x xs) ≡ suc (length xs)
put_length p x [] = refl
put_length p x (y ∷ xs) = go (p y) (put_length p x xs)
  where
    go : (b : Bool) → length (put p x xs) ≡ suc (length xs) → length (if b then y ∷ put p x xs else x ∷ y ∷ xs) ≡ suc (length (y ∷ xs))
    go true h = ap suc h
    go false h = refl

pub ordered_length : (ds : List (List ℕ)) → length (in_order ds) ≡ length ds
ordered_length [] = refl
ordered_length (d ∷ ds) = put_length (λ other. precedes other d) d (in_order ds) ∙ ap suc (ordered_length ds)
