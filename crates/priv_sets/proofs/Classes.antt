-- The privileges of a class, one number after another.
use Rattle.std.proofs.Common.{◌≡◌, ◌+◌, ℕ, Bool, true, false, ◌&&◌, ◌||◌, nat_lt, List, [], refl, arith, sym}
use Rattle.std.specs.Prelude.{◌==◌}
use Rattle.std.proofs.lemmas.Bool.{eqb-true, lt-ltb}
use Rattle.std.proofs.Math.Bool.{or-false}
use Rattle.std.proofs.lemmas.Bool.Decides.{nat_tests}
use Rattle.priv_sets.specs.Sets.{only, set_of, union}
use Rattle.priv_sets.proofs.Numbers.{has-set_of-below, set_of_none, set_of_same}

-- those that pass a test below a number
abbrev pub below : (ℕ → Bool) → ℕ → List ℕ
below p k = set_of (λ n. nat_lt n k && p n)

pub below-none : (p : ℕ → Bool) → [] ≡ below p 0
below-none p = sym (set_of_none (λ n. nat_lt n 0 && p n) (λ n low. grind (arith, nat_tests)))

pub below-all : (p : ℕ → Bool) → below p 40 ≡ set_of p
below-all p = set_of_same _ _ (λ n low. rw (lt-ltb n 40 low) refl)

next_number : (p : ℕ → Bool) (k n : ℕ) → (nat_lt n (k + 1) && p n) ≡ ((nat_lt n k && p n) || (p k && (n == k)))
next_number p k n =
    elim (n == k) as (λ v. (n == k) ≡ v → (nat_lt n (k + 1) && p n) ≡ ((nat_lt n k && p n) || (p k && v))) [
      | true ↦ λ e. let same : n ≡ k = eqb-true n k e in rw same (grind (arith, nat_tests))
      | false ↦ λ e. grind (arith, nat_tests)
    ] refl

pub below-more : (p : ℕ → Bool) (k : ℕ) → p k ≡ true → union (below p k) (only k) ≡ below p (k + 1)
unfolding union only
below-more p k here =
    set_of_same _ _ (λ n low. rw (has-set_of-below (λ m. nat_lt m k && p m) n low, has-set_of-below (λ m. m == k) n low, next_number p k n, here) refl)

pub below-same : (p : ℕ → Bool) (k : ℕ) → p k ≡ false → below p k ≡ below p (k + 1)
below-same p k out = set_of_same _ _ (λ n low. rw (next_number p k n, out) (sym (or-false (nat_lt n k && p n))))
