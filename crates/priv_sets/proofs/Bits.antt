-- Sets by the bits of a number.
use Rattle.std.proofs.Common.{◌≡◌, ◌≢◌, ◌∙◌, ◌-◌, ◌*◌, ◌/◌, ◌%◌, ◌^◌, ◌<◌, ◌≤◌, ℕ, Bool, true, false, not, ◌&&◌, ◌||◌, min, max, nat_eq, nat_lt, [], Some, bit_and, bit_or, w64, refl, sym, ap, arith}
use Rattle.std.specs.Prelude.{◌==◌}
use Rattle.std.specs.List.{slice_get}
use Rattle.std.specs.Int.{bit_at, trailing_zeros}
use Rattle.std.proofs.lemmas.Bool.{eqb-true, eq-eqb, ne_eqb, le-ltb}
use Rattle.std.proofs.lemmas.Bool.Decides.{nat_tests}
use Rattle.std.proofs.lemmas.Nat.{and_le_l}
use Rattle.std.proofs.lemmas.Nat.Bits.{bit_at-lt, bit_at-zero, bit_at_above, bit_at_and, bit_at_or, bit_at_not, bit_at_ones, bit_at-pow_same, bit_at-pow_other, bit_at-trailing_zeros, shr_and_one}
use Rattle.std.proofs.Math.Pow.{pow-lt}
use Rattle.priv_sets.specs.Sets.{set_of, set_of_bits, has, union, both, without, within, only, everything}
use Rattle.priv_sets.proofs.Numbers.{set_of_same, has-set_of, has-set_of-below, first_of, set_of_none, all_of_set, one_of_set_fails}

abbrev bit : ℕ → ℕ → Bool
bit bits n = bit_at bits n == 1

or_bits : (x y : ℕ) → x < 2 → y < 2 → (max x y == 1) ≡ ((x == 1) || (y == 1))
or_bits x y low lower = grind (arith, nat_tests)

and_bits : (x y : ℕ) → x < 2 → y < 2 → (min x y == 1) ≡ ((x == 1) && (y == 1))
and_bits x y low lower = grind (arith, nat_tests)

and_not_bits : (x y : ℕ) → x < 2 → y < 2 → (min x (1 - y) == 1) ≡ ((x == 1) && not (y == 1))
and_not_bits x y low lower = grind (arith, nat_tests)

pub bits-union : (a b : ℕ) → set_of_bits (bit_or a b) ≡ union (set_of_bits a) (set_of_bits b)
unfolding set_of_bits union
bits-union a b =
    set_of_same (bit (bit_or a b)) (λ n. has (set_of (bit a)) n || has (set_of (bit b)) n)
    (λ n below. rw (has-set_of-below (bit a) n below, has-set_of-below (bit b) n below, bit_at_or a b n) (or_bits (bit_at a n) (bit_at b n) (bit_at-lt a n) (bit_at-lt b n)))

pub bits-both : (a b : ℕ) → set_of_bits (bit_and a b) ≡ both (set_of_bits a) (set_of_bits b)
unfolding set_of_bits both
bits-both a b =
    set_of_same (bit (bit_and a b)) (λ n. has (set_of (bit a)) n && has (set_of (bit b)) n)
    (λ n below. rw (has-set_of-below (bit a) n below, has-set_of-below (bit b) n below, bit_at_and a b n) (and_bits (bit_at a n) (bit_at b n) (bit_at-lt a n) (bit_at-lt b n)))

-- a bit of `a & !b`
bit-without : (a b n : ℕ) → b < 2 ^ 40 → n < 40 → bit_at (bit_and a (2 ^ 64 - 1 - b)) n ≡ min (bit_at a n) (1 - bit_at b n)
bit-without a b n small below = bit_at_and a (2 ^ 64 - 1 - b) n ∙ ap (min (bit_at a n)) (bit_at_not w64 b n (omega arith) (omega arith))

pub bits-without : (a b : ℕ) → b < 2 ^ 40 → set_of_bits (bit_and a (2 ^ 64 - 1 - b)) ≡ without (set_of_bits a) (set_of_bits b)
unfolding set_of_bits without
bits-without a b small =
    set_of_same (bit (bit_and a (2 ^ 64 - 1 - b))) (λ n. has (set_of (bit a)) n && not (has (set_of (bit b)) n))
    (λ n below. rw (has-set_of-below (bit a) n below, has-set_of-below (bit b) n below, bit-without a b n small below) (and_not_bits (bit_at a n) (bit_at b n) (bit_at-lt a n) (bit_at-lt b n)))

-- `1 << n`
shifted : (n : ℕ) → n < 40 → 1 * 2 ^ n % 2 ^ 64 ≡ 2 ^ n
shifted n below = let small : 2 ^ n < 2 ^ 64 = pow-lt {i = n} {j = 64} (omega arith) in omega arith

pub small-only : (n : ℕ) → n < 40 → 1 * 2 ^ n % 2 ^ 64 < 2 ^ 40
small-only n below = rw (shifted n below) (pow-lt below)

pub bits-only : (n : ℕ) → n < 40 → set_of_bits (1 * 2 ^ n % 2 ^ 64) ≡ only n
unfolding set_of_bits only
bits-only n below =
    rw (shifted n below) (set_of_same (bit (2 ^ n)) (λ m. m == n) (λ m low. elim (m == n) as (λ v. (m == n) ≡ v → bit (2 ^ n) m ≡ v) [
      | true ↦ λ e. let same : m ≡ n = eqb-true m n e in rw (same, bit_at-pow_same n) refl
      | false ↦ λ e. let other : m ≢ n = grind (arith, nat_tests) in rw (bit_at-pow_other n m other) refl
    ] refl))

pub bits-everything : set_of_bits (2 ^ 40 - 1) ≡ everything
unfolding set_of_bits everything
bits-everything = set_of_same (bit (2 ^ 40 - 1)) (λ n. true) (λ n below. rw (bit_at_ones 40 n below) refl)

pub bits-none : set_of_bits 0 ≡ []
unfolding set_of_bits
bits-none = set_of_none (bit 0) (λ n below. rw (bit_at-zero n) refl)

-- no privilege has a number past the table
pub only_past : (n : ℕ) → 40 ≤ n → only n ≡ []
unfolding only
only_past n past = set_of_none (λ m. m == n) (λ m below. ne_eqb m n (λ same. omega (arith, same)))

pub has-bits : (bits n : ℕ) → n < 40 → nat_eq (bit_and (bits / 2 ^ n) 1) 1 ≡ has (set_of_bits bits) n
unfolding set_of_bits
has-bits bits n below = rw (shr_and_one bits n) (sym (has-set_of-below (bit bits) n below))

pub has-past : (bits n : ℕ) → 40 ≤ n → has (set_of_bits bits) n ≡ false
unfolding set_of_bits
has-past bits n past = has-set_of (bit bits) n ∙ rw (le-ltb n 40 past) refl

-- the lowest bit of a number other than 0
lowest : (bits : ℕ) → bits < 2 ^ 40 → 0 < bits → (trailing_zeros w64 bits < 40) × (bit bits (trailing_zeros w64 bits) ≡ true) × ((k : ℕ) → k < trailing_zeros w64 bits → bit bits k ≡ false)
lowest bits small some =
    let n = trailing_zeros w64 bits in
    let low = bit_at-trailing_zeros w64 bits some (omega arith) in
    let below : n < 40 = elim (nat_lt n 40) as (λ v. nat_lt n 40 ≡ v → n < 40) [
      | true ↦ λ e. grind (arith, nat_tests)
      | false ↦ λ e.
          let past : 40 ≤ n = grind (arith, nat_tests) in
          let zero : bit_at bits n ≡ 0 = bit_at_above bits 40 n small past in
          absurd (omega (arith, zero, low.1))
    ] refl in
    (below, eq-eqb _ _ low.1, λ k before. rw (low.2 k before) refl)

pub first-bits : (bits : ℕ) → bits < 2 ^ 40 → 0 < bits → slice_get (set_of_bits bits) 0 ≡ Some (trailing_zeros w64 bits)
unfolding set_of_bits
first-bits bits small some =
    let low = lowest bits small some in
    first_of (bit bits) (trailing_zeros w64 bits) low.0 low.1 low.2

pub bits-within : (a b : ℕ) → a < 2 ^ 40 → b < 2 ^ 40 → nat_eq (bit_and a (2 ^ 64 - 1 - b)) 0 ≡ within (set_of_bits a) (set_of_bits b)
unfolding set_of_bits within
bits-within a b small_a small_b =
    let rest = bit_and a (2 ^ 64 - 1 - b) in
    elim (nat_eq rest 0) as (λ v. nat_eq rest 0 ≡ v → v ≡ within (set_of_bits a) (set_of_bits b)) [
      | true ↦ λ e.
          let none : rest ≡ 0 = eqb-true rest 0 e in
          sym (all_of_set (bit a) (has (set_of (bit b))) (λ n below here.
          let gone : min (bit_at a n) (1 - bit_at b n) ≡ 0 = sym (bit-without a b n small_b below) ∙ ap (λ m. bit_at m n) none ∙ bit_at-zero n in
          let one : bit_at a n ≡ 1 = eqb-true _ _ here in
          has-set_of-below (bit b) n below ∙ eq-eqb _ _ (omega (arith, bit_at-lt b n))))
      | false ↦ λ e.
          let some : 0 < rest = grind (arith, nat_tests) in
          let small : rest < 2 ^ 40 = omega (arith, and_le_l a (2 ^ 64 - 1 - b)) in
          let low = lowest rest small some in
          let n = trailing_zeros w64 rest in
          let left : min (bit_at a n) (1 - bit_at b n) ≡ 1 = sym (bit-without a b n small_b low.0) ∙ eqb-true _ _ low.1 in
          let here : bit a n ≡ true = eq-eqb _ _ (omega (arith, bit_at-lt a n)) in
          let out : bit b n ≡ false = ne_eqb _ _ (λ same. omega arith) in
          sym (one_of_set_fails (bit a) (has (set_of (bit b))) n low.0 here (has-set_of-below (bit b) n low.0 ∙ out))
    ] refl
