-- Paths in byte order, and where another one goes among them.
use Rattle.std.proofs.Common.{◌≡◌, ◌∙◌, ◌+◌, ◌<◌, ◌≤◌, ◌++◌, ◌∷◌, ◌&&◌, [], ℕ, zero, suc, Bool, List, true, false, not, length, take, drop, get_or, ap, sym, subst, refl, arith}
use Rattle.std.specs.Prelude.{if◌then◌else◌}
use Rattle.std.specs.Cmp.{IsStrictWeakOrder}
use Rattle.std.specs.Cmp.Lexicographic.{slice_cmp}
use Rattle.std.specs.List.{list_all}
use Rattle.std.specs.List.Sorted.{IsPartitionedBy, IsPartitionPoint, IsSorted}
use Rattle.std.specs.Ordering.{is_eq, is_lt, nat_cmp, ordering_reverse}
use Rattle.std.specs.declared.cmp.Ordering.{Ordering}
use Rattle.std.specs.declared.cmp.Ordering.TheVariants.{Less, Equal, Greater}
use Rattle.std.proofs.lemmas.Bool.{and_from, and_parts, false_from_ne_true, false≢true, not-true, true_from_ne_false}
use Rattle.std.proofs.lemmas.Cmp.{nat_list_cmp_total}
use Rattle.std.proofs.lemmas.List.{get_or_default}
use Rattle.std.proofs.lemmas.List.Sorted.{ranks_by, sorted_far}
use Rattle.std.proofs.lemmas.Map.Text.{is_eq-slice_cmp}
use Rattle.std.proofs.lemmas.Slice.Eq.{bytes_eq-Decides}
use Rattle.loopback_mounts.specs.Mounts.{precedes}
use Rattle.zone_pools.specs.Owned_lists.{put}
use Rattle.zoneadmd_steps.specs.Configs.{in_order}
use native.Mathlib.Numerals.{unary_clauses}

abbrev before : List ℕ → List ℕ → Bool
before dir other = precedes other dir

order : IsStrictWeakOrder precedes
order = ranks_by nat_list_cmp_total (λ dir. dir)

neither : (r : Ordering) → is_lt r ≡ false → is_lt (ordering_reverse r) ≡ false → is_eq r ≡ true
neither Less h k = absurd (false≢true (sym h))
neither Equal h k = refl
neither Greater h k = absurd (false≢true (sym k))

-- two paths of which neither precedes the other are one
same : (a b : List ℕ) → precedes a b ≡ false → precedes b a ≡ false → a ≡ b
same a b h k =
    (bytes_eq-Decides a b).0 (sym (is_eq-slice_cmp a b) ∙ neither (slice_cmp nat_cmp a b) h (ap is_lt (sym (nat_list_cmp_total.antisymm b a)) ∙ k))

-- b is behind a where a path that is behind a, or is a, precedes it
between : (a b x : List ℕ) → precedes x b ≡ true → precedes x a ≡ false → precedes a b ≡ true
between a b x h k = true_from_ne_false (precedes a b) (λ e. false≢true (sym (order.chain x a b k e) ∙ h))

-- two paths are put in either order
both_first : (a b : List ℕ) (xs : List (List ℕ))
    → (if precedes b a then b ∷ a ∷ xs else a ∷ b ∷ xs) ≡ (if precedes a b then a ∷ b ∷ xs else b ∷ a ∷ xs)
both_first a b xs = at_tests (precedes b a) (precedes a b) refl refl
  where
    at_tests : (t u : Bool) → precedes b a ≡ t → precedes a b ≡ u → (if t then b ∷ a ∷ xs else a ∷ b ∷ xs) ≡ (if u then a ∷ b ∷ xs else b ∷ a ∷ xs)
    at_tests true true e f = absurd (false≢true (sym (order.one_way b a e) ∙ f))
    at_tests true false e f = refl
    at_tests false true e f = refl
    at_tests false false e f = ap (λ (c : List ℕ). a ∷ c ∷ xs) (sym (same a b f e)) ∙ ap (λ (c : List ℕ). c ∷ a ∷ xs) (same a b f e)

put_twice : (a b : List ℕ) (xs : List (List ℕ)) → put (before a) a (put (before b) b xs) ≡ put (before b) b (put (before a) a xs)
put_twice a b [] = both_first a b []
put_twice a b (x ∷ xs) = at_tests (precedes x a) (precedes x b) refl refl (put_twice a b xs)
  where
    at_tests : (t u : Bool) → precedes x a ≡ t → precedes x b ≡ u → put (before a) a (put (before b) b xs) ≡ put (before b) b (put (before a) a xs)
        → put (before a) a (put (before b) b (x ∷ xs)) ≡ put (before b) b (put (before a) a (x ∷ xs))
    at_tests true true e f ih = simp (e, f) (ap (λ ys. x ∷ ys) ih)
    at_tests true false e f ih = let first = between b a x e f in simp (e, f, first)
    at_tests false true e f ih = let first = between a b x f e in simp (e, f, first)
    at_tests false false e f ih = simp (e, f) (both_first a b (x ∷ xs))

-- the last of some paths comes to the others
pub in_order_more : (dirs : List (List ℕ)) (dir : List ℕ) → in_order (dirs ++ dir ∷ []) ≡ put (before dir) dir (in_order dirs)
in_order_more [] dir = refl
in_order_more (d ∷ dirs) dir = ap (put (before d) d) (in_order_more dirs dir) ∙ put_twice d dir (in_order dirs)

-- no path precedes one before it
abbrev rises : List (List ℕ) → Bool
rises [] = true
rises (x ∷ xs) = list_all (λ y. not (precedes y x)) xs && rises xs

all_put : (p q : List ℕ → Bool) (a : List ℕ) (xs : List (List ℕ)) → p a ≡ true → list_all p xs ≡ true → list_all p (put q a xs) ≡ true
all_put p q a [] h all = and_from _ _ h refl
all_put p q a (x ∷ xs) h all = at_test (q x) refl (all_put p q a xs h)
  where
    at_test : (t : Bool) → q x ≡ t → (list_all p xs ≡ true → list_all p (put q a xs) ≡ true) → list_all p (put q a (x ∷ xs)) ≡ true
    at_test true e ih = let both = and_parts (p x) (list_all p xs) all in rw e (and_from _ _ both.0 (ih both.1))
    at_test false e ih = rw e (and_from _ _ h all)

rises_put : (a : List ℕ) (xs : List (List ℕ)) → rises xs ≡ true → rises (put (before a) a xs) ≡ true
rises_put a [] h = refl
rises_put a (x ∷ xs) h = at_test (precedes x a) refl (rises_put a xs)
  where
    both : (list_all (λ y. not (precedes y x)) xs ≡ true) × (rises xs ≡ true)
    both = and_parts (list_all (λ y. not (precedes y x)) xs) (rises xs) h

    all_behind : (ys : List (List ℕ)) → precedes x a ≡ false → list_all (λ y. not (precedes y x)) ys ≡ true → list_all (λ y. not (precedes y a)) ys ≡ true
    all_behind [] e all = refl
    all_behind (y ∷ ys) e all =
        let parts = and_parts (not (precedes y x)) _ all in
        and_from _ _ (ap not (order.chain y x a (not-true (precedes y x) parts.0) e)) (all_behind ys e parts.1)

    at_test : (t : Bool) → precedes x a ≡ t → (rises xs ≡ true → rises (put (before a) a xs) ≡ true) → rises (put (before a) a (x ∷ xs)) ≡ true
    at_test true e ih = rw e (and_from _ _ (all_put (λ y. not (precedes y x)) (before a) a xs (ap not (order.one_way x a e)) both.0) (ih both.1))
    at_test false e ih = rw e (and_from _ _ (and_from _ _ (ap not e) (all_behind xs e both.0)) h)

rises_in_order : (dirs : List (List ℕ)) → rises (in_order dirs) ≡ true
rises_in_order [] = refl
rises_in_order (dir ∷ dirs) = rises_put dir (in_order dirs) (rises_in_order dirs)

in_pairs : (xs : List (List ℕ)) → rises xs ≡ true → IsSorted (slice_cmp nat_cmp) xs
in_pairs [] h k d low high = absurd (omega arith)
in_pairs (x ∷ []) h k d low high = absurd (omega arith)
in_pairs (x ∷ y ∷ xs) h zero d low high =
    let both = and_parts (list_all (λ z. not (precedes z x)) (y ∷ xs)) (rises (y ∷ xs)) h in
    not-true (precedes y x) (and_parts (not (precedes y x)) (list_all (λ z. not (precedes z x)) xs) both.0).0
in_pairs (x ∷ y ∷ xs) h (suc k) d low high =
    let both = and_parts (list_all (λ z. not (precedes z x)) (y ∷ xs)) (rises (y ∷ xs)) h in
    let next = in_pairs (y ∷ xs) both.1 k d (omega arith) (omega arith) in
    simp unary_clauses (simp unary_clauses at next)

pub in_order_sorted : (dirs : List (List ℕ)) → IsSorted (slice_cmp nat_cmp) (in_order dirs)
in_order_sorted dirs = in_pairs (in_order dirs) (rises_in_order dirs)

-- those that precede a path come first among paths in order
pub parted : (dir : List ℕ) (xs : List (List ℕ)) → IsSorted (slice_cmp nat_cmp) xs → IsPartitionedBy (before dir) xs
parted dir xs sorted i j d at_most inside h =
    let x = get_or xs i d in
    true_from_ne_false (precedes x dir) (λ e. false≢true (sym (order.chain (get_or xs j d) x dir (sorted_far precedes order xs sorted i j d at_most inside) e) ∙ h))

-- a path goes behind those that precede it
pub put_at : (p : List ℕ → Bool) (a : List ℕ) (xs : List (List ℕ)) (i : ℕ) → i ≤ length xs → IsPartitionPoint (λ y. p y ≡ true) (λ y. p y ≡ false) xs i → put p a xs ≡ take i xs ++ a ∷ drop i xs
put_at p a [] zero within point = refl
put_at p a [] (suc i) within point = refl
put_at p a (x ∷ xs) zero within point = rw (point.1 zero x (omega arith) (omega arith)) refl
put_at p a (x ∷ xs) (suc i) within point =
    rw (point.0 zero x (omega arith) (omega arith))
    (ap (λ ys. x ∷ ys) (put_at p a xs i (omega arith) (λ k d low high. point.0 (suc k) d (omega arith) (omega arith), λ k d low high. point.1 (suc k) d (omega arith) (omega arith))))

-- those up to one that precedes it do
all_before : (dir : List ℕ) (xs : List (List ℕ)) (i : ℕ) (x : List ℕ) → i < length xs → IsSorted (slice_cmp nat_cmp) xs → x ≡ get_or xs i x → precedes x dir ≡ true
    → (k : ℕ) (d : List ℕ) → 0 ≤ k → k < i + 1 → precedes (get_or xs k d) dir ≡ true
all_before dir xs i x inside sorted is h k d low high =
    let here = subst (λ y. precedes y dir ≡ true) (is ∙ get_or_default xs i x d inside) h in
    parted dir xs sorted k i d (omega arith) inside here

-- behind the last of all
pub put_last : (dir : List ℕ) (xs : List (List ℕ)) (i : ℕ) (x : List ℕ) → i + 1 ≡ length xs → IsSorted (slice_cmp nat_cmp) xs → x ≡ get_or xs i x → precedes x dir ≡ true
    → put (before dir) dir xs ≡ take (i + 1) xs ++ dir ∷ drop (i + 1) xs
put_last dir xs i x last sorted is h =
    put_at (before dir) dir xs (i + 1) (omega (arith, last)) (all_before dir xs i x (omega (arith, last)) sorted is h, λ k d low high. absurd (omega (arith, last, low, high)))

-- or between two of them
pub put_between : (dir : List ℕ) (xs : List (List ℕ)) (i : ℕ) (x y : List ℕ) → i + 1 < length xs → IsSorted (slice_cmp nat_cmp) xs → x ≡ get_or xs i x → y ≡ get_or xs (i + 1) y
    → precedes x dir ≡ true → precedes y dir ≡ false → put (before dir) dir xs ≡ take (i + 1) xs ++ dir ∷ drop (i + 1) xs
put_between dir xs i x y inside sorted is next h k =
    put_at (before dir) dir xs (i + 1) (omega (arith, inside)) (all_before dir xs i x (omega (arith, inside)) sorted is h, none_behind)
  where
    none_behind : (j : ℕ) (d : List ℕ) → i + 1 ≤ j → j < length xs → precedes (get_or xs j d) dir ≡ false
    none_behind j d low high = false_from_ne_true (precedes (get_or xs j d) dir) (λ e.
        false≢true (sym k ∙ subst (λ z. precedes z dir ≡ true) (sym (next ∙ get_or_default xs (i + 1) y d inside)) (parted dir xs sorted (i + 1) j d low high e)))
