-- A number grows with each of its digits.
use Rattle.std.proofs.Common.{◌≡◌, ◌+◌, ◌-◌, ◌*◌, ◌≤◌, ◌<◌, ℕ, suc, List, [], ◌∷◌, Bool, true, false, ◌&&◌, length, Some, None, drop, get_or, drop-cons, refl, arith}
use Rattle.std.specs.Prelude.{nat_le}
use Rattle.std.specs.Char.{is_ascii_digit}
use Rattle.std.specs.List.{list_all}
use Rattle.std.proofs.lemmas.Bool.Decides.{nat_tests}
use Rattle.zn_base.specs.Decimals.{decimal_of, digits_value, has_no_leading_zero, is_counted, is_spelled}

pub grows : (n : ℕ) (bytes : List ℕ) → n ≤ digits_value n bytes
grows n [] = omega arith
grows n (b ∷ bytes) = let more = grows (10 * n + (b - 48)) bytes in omega (arith, more)

-- a digit with which a number passes a bound makes the whole pass it
pub too_great : (most n i : ℕ) (text : List ℕ) → i < length text → digits_value n (drop i text) ≡ digits_value 0 text
    → (10 * n + (get_or text i 0 - 48) < most → ⊥) → digits_value 0 text < most → ⊥
too_great most n i text inside value above fits =
    let split : drop i text ≡ get_or text i 0 ∷ drop (suc i) text = drop-cons text i 0 inside in
    let more : digits_value (10 * n + (get_or text i 0 - 48)) (drop (suc i) text) ≡ digits_value 0 text = rw split at value in
    let grown = grows (10 * n + (get_or text i 0 - 48)) (drop (suc i) text) in
    above (omega (arith, grown, more))

first_true : (a b : Bool) → (a && b) ≡ true → a ≡ true
first_true true b h = refl
first_true false b h = h

-- digits without leading zero say at least 1
pub at_least_one : (text : List ℕ) → has_no_leading_zero text ≡ true → list_all is_ascii_digit text ≡ true → 1 ≤ digits_value 0 text
at_least_one [] h g = absurd (cc)
at_least_one (b ∷ bytes) h g =
    let digit = first_true (is_ascii_digit b) (list_all is_ascii_digit bytes) g in
    let grown = grows (10 * 0 + (b - 48)) bytes in
    let above : 48 < b = grind (arith, nat_tests) in
    omega (arith, grown)

is_counted-true : (most n : ℕ) → 1 ≤ n → n ≤ most → is_counted most n ≡ true
is_counted-true most n low high = grind (arith, nat_tests)

is_counted-false : (most n : ℕ) → most < n → is_counted most n ≡ false
is_counted-false most n high =
    let past : nat_le n most ≡ false = grind (arith, nat_tests) in
    elim (nat_le 1 n) as (λ b. (b && nat_le n most) ≡ false) [ true ↦ past | false ↦ refl ]

-- what is no number by its bytes
pub not_spelled : (most : ℕ) (text : List ℕ) → is_spelled text ≡ false → None ≡ decimal_of most text
unfolding decimal_of
not_spelled most text other = rw other refl

both_true : (a b : Bool) → (a && b) ≡ true → (a ≡ true) × (b ≡ true)
both_true true b h = (refl, h)
both_true false b h = absurd (cc)

-- what a text says that is digits, where that is no more than the greatest number
pub decimal_is : (most : ℕ) (text : List ℕ) → is_spelled text ≡ true → digits_value 0 text ≤ most → Some (digits_value 0 text) ≡ decimal_of most text
unfolding decimal_of
decimal_is most text digits fits =
    let parts = both_true (has_no_leading_zero text) (list_all is_ascii_digit text) digits in
    rw (digits, is_counted-true most (digits_value 0 text) (at_least_one text parts.0 parts.1) fits) refl

-- and no number, where it is more
pub no_decimal : (most : ℕ) (text : List ℕ) → is_spelled text ≡ true → most < digits_value 0 text → None ≡ decimal_of most text
unfolding decimal_of
no_decimal most text digits above = rw (digits, is_counted-false most (digits_value 0 text) above) refl
