-- Sets by their tests.
use Rattle.std.proofs.Common.{◌≡◌, ◌∙◌, ◌+◌, ◌<◌, ◌≤◌, ℕ, zero, suc, Bool, true, false, ◌&&◌, ◌||◌, cond, nat_le, nat_lt, List, [], ◌∷◌, Some, filter, refl, sym, ap, arith}
use Rattle.std.specs.Prelude.{◌==◌}
use Rattle.std.specs.List.{list_all, list_any, slice_get}
use Rattle.std.proofs.lemmas.Bool.{eqb-true, le-leb, lt-ltb, and_right}
use Rattle.std.proofs.lemmas.Bool.Decides.{nat_tests}
use Rattle.priv_sets.specs.Sets.{numbers_from, set_of, has}

-- a number is among some that pass a test where it is among them all and passes
any_filter : (p : ℕ → Bool) (n : ℕ) (xs : List ℕ) → list_any (λ m. m == n) (filter p xs) ≡ (list_any (λ m. m == n) xs && p n)
any_filter p n [] = refl
any_filter p n (x ∷ xs) =
    elim (p x) as (λ v. p x ≡ v → list_any (λ m. m == n) (cond v (x ∷ filter p xs) (filter p xs)) ≡ ((x == n || list_any (λ m. m == n) xs) && p n)) [
      | true ↦ λ e. rw (any_filter p n xs) (elim (x == n) as (λ v. (x == n) ≡ v → (v || (list_any (λ m. m == n) xs && p n)) ≡ ((v || list_any (λ m. m == n) xs) && p n)) [
        | true ↦ λ same. sym (ap p (sym (eqb-true x n same)) ∙ e)
        | false ↦ λ other. refl
      ] refl)
      | false ↦ λ e. any_filter p n xs ∙ (elim (x == n) as (λ v. (x == n) ≡ v → (list_any (λ m. m == n) xs && p n) ≡ ((v || list_any (λ m. m == n) xs) && p n)) [
        | true ↦ λ same. let out : p n ≡ false = ap p (sym (eqb-true x n same)) ∙ e in rw out (and_right (list_any (λ m. m == n) xs) false refl)
        | false ↦ λ other. refl
      ] refl)
    ] refl

any_numbers : (n from count : ℕ) → list_any (λ m. m == n) (numbers_from from count) ≡ (nat_le from n && nat_lt n (from + count))
any_numbers n from zero = grind (arith, nat_tests)
any_numbers n from (suc count) = rw (any_numbers n (from + 1) count) (grind (arith, nat_tests))

-- what is in the set of a test
pub has-set_of : (p : ℕ → Bool) (n : ℕ) → has (set_of p) n ≡ (nat_lt n 40 && p n)
unfolding has set_of
has-set_of p n = any_filter p n (numbers_from 0 40) ∙ rw (any_numbers n 0 40, le-leb 0 n (omega arith)) refl

filter_same : (p q : ℕ → Bool) (from count : ℕ) → ((n : ℕ) → n < from + count → p n ≡ q n) → filter p (numbers_from from count) ≡ filter q (numbers_from from count)
filter_same p q from zero h = refl
filter_same p q from (suc count) h =
    rw (h from (omega arith), filter_same p q (from + 1) count (λ n below. h n (omega arith))) refl

-- tests that agree make one set
pub set_of_same : (p q : ℕ → Bool) → ((n : ℕ) → n < 40 → p n ≡ q n) → set_of p ≡ set_of q
unfolding set_of
set_of_same p q h = filter_same p q 0 40 (λ n below. h n (omega arith))

pub has-set_of-below : (p : ℕ → Bool) (n : ℕ) → n < 40 → has (set_of p) n ≡ p n
has-set_of-below p n below = has-set_of p n ∙ rw (lt-ltb n 40 below) refl

-- a set is the set of what it has
pub set_of-has : (p : ℕ → Bool) → set_of (has (set_of p)) ≡ set_of p
set_of-has p = set_of_same _ _ (λ n below. has-set_of-below p n below)

-- the least number that passes
first_from : (p : ℕ → Bool) (from count n : ℕ) → from ≤ n → n < from + count → p n ≡ true → ((k : ℕ) → from ≤ k → k < n → p k ≡ false) → slice_get (filter p (numbers_from from count)) 0 ≡ Some n
first_from p from zero n after below here before = absurd (omega arith)
first_from p from (suc count) n after below here before =
    elim (from == n) as (λ v. (from == n) ≡ v → slice_get (filter p (numbers_from from (suc count))) 0 ≡ Some n) [
      | true ↦ λ e.
          let same : from ≡ n = eqb-true from n e in
          let passes : p from ≡ true = ap p same ∙ here in
          rw passes (ap Some same)
      | false ↦ λ e.
          let other : from < n = grind (arith, nat_tests) in
          let fails : p from ≡ false = before from (omega arith) other in
          rw fails (first_from p (from + 1) count n (omega arith) (omega arith) here (λ k low high. before k (omega arith) high))
    ] refl

pub first_of : (p : ℕ → Bool) (n : ℕ) → n < 40 → p n ≡ true → ((k : ℕ) → k < n → p k ≡ false) → slice_get (set_of p) 0 ≡ Some n
unfolding set_of
first_of p n below here before = first_from p 0 40 n (omega arith) (omega arith) here (λ k low high. before k high)

none_pass : (p : ℕ → Bool) (from count : ℕ) → ((n : ℕ) → n < from + count → p n ≡ false) → filter p (numbers_from from count) ≡ []
none_pass p from zero h = refl
none_pass p from (suc count) h = rw (h from (omega arith)) (none_pass p (from + 1) count (λ n below. h n (omega arith)))

pub set_of_none : (p : ℕ → Bool) → ((n : ℕ) → n < 40 → p n ≡ false) → set_of p ≡ []
unfolding set_of
set_of_none p h = none_pass p 0 40 (λ n below. h n (omega arith))

-- whether all that pass one test pass another
all_pass : (p q : ℕ → Bool) (from count : ℕ) → ((n : ℕ) → from ≤ n → n < from + count → p n ≡ true → q n ≡ true) → list_all q (filter p (numbers_from from count)) ≡ true
all_pass p q from zero h = refl
all_pass p q from (suc count) h =
    let rest = all_pass p q (from + 1) count (λ n low high. h n (omega arith) (omega arith)) in
    elim (p from) as (λ v. p from ≡ v → list_all q (cond v (from ∷ filter p (numbers_from (from + 1) count)) (filter p (numbers_from (from + 1) count))) ≡ true) [
      | true ↦ λ e. rw (h from (omega arith) (omega arith) e) rest
      | false ↦ λ e. rest
    ] refl

pub all_of_set : (p q : ℕ → Bool) → ((n : ℕ) → n < 40 → p n ≡ true → q n ≡ true) → list_all q (set_of p) ≡ true
unfolding set_of
all_of_set p q h = all_pass p q 0 40 (λ n low high. h n (omega arith))

one_fails : (p q : ℕ → Bool) (from count n : ℕ) → from ≤ n → n < from + count → p n ≡ true → q n ≡ false → list_all q (filter p (numbers_from from count)) ≡ false
one_fails p q from zero n after below here out = absurd (omega arith)
one_fails p q from (suc count) n after below here out =
    elim (from == n) as (λ v. (from == n) ≡ v → list_all q (filter p (numbers_from from (suc count))) ≡ false) [
      | true ↦ λ e.
          let same : from ≡ n = eqb-true from n e in
          let passes : p from ≡ true = ap p same ∙ here in
          let fails : q from ≡ false = ap q same ∙ out in
          rw (passes, fails) refl
      | false ↦ λ e.
          let other : from < n = grind (arith, nat_tests) in
          let rest = one_fails p q (from + 1) count n (omega arith) (omega arith) here out in
          elim (p from) as (λ v. list_all q (cond v (from ∷ filter p (numbers_from (from + 1) count)) (filter p (numbers_from (from + 1) count))) ≡ false) [
            | true ↦ and_right (q from) _ rest
            | false ↦ rest
          ]
    ] refl

pub one_of_set_fails : (p q : ℕ → Bool) (n : ℕ) → n < 40 → p n ≡ true → q n ≡ false → list_all q (set_of p) ≡ false
unfolding set_of
one_of_set_fails p q n below here out = one_fails p q 0 40 n (omega arith) (omega arith) here out
