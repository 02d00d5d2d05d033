-- The numbers of grants, as they are read and written.
use Rattle.std.proofs.Common.{◌≡◌, ◌<◌, ◌≤◌, ◌∙◌, ◌^◌, ℕ, List, [], ◌∷◌, Bool, true, false, ◌&&◌, Some, None, codes, get_or, length, nat_eq, refl, sym, ap, arith, rules}
use Rattle.std.specs.Prelude.{if◌then◌else◌, nat_le}
use Rattle.std.specs.Char.{is_ascii_digit}
use Rattle.std.specs.Fmt.{decimal}
use Rattle.std.specs.List.{list_all}
use Rattle.std.proofs.lemmas.Bool.{and_parts, leb-true}
use Rattle.std.proofs.lemmas.Bool.Decides.{nat_tests}
use Rattle.std.proofs.lemmas.Fmt.{decimal-digits_value, decimal_digit, digits_decimal, digits_value-decimal, first_decimal}
use Rattle.std.proofs.lemmas.Str.Parse.{IsNumeralModel, numerals_by_fold}
use Rattle.zn_base.specs.Cuts.{lacks}
use Rattle.zn_base.specs.Decimals.{decimal_of, digits_value, has_no_leading_zero, is_decimal, is_spelled}
use Rattle.zn_base.proofs.First_byte.{lacks_by}
use Rattle.grant_text.specs.Text.{greatest_number}

own : IsNumeralModel (λ ds. list_all is_ascii_digit ds ≡ true) (digits_value 0)
own = numerals_by_fold (λ ds. list_all is_ascii_digit ds ≡ true) (search rules) digits_value (search rules)

-- what is written of a number is digits
pub digits : (n : ℕ) → n ≤ greatest_number → list_all is_ascii_digit (decimal n) ≡ true
digits n few = digits_decimal own n (omega (arith, few))

pub number_lacks : (n : ℕ) → n ≤ greatest_number → lacks 32 (decimal n) ≡ true
number_lacks n few = lacks_by is_ascii_digit 32 refl (decimal n) (digits n few)

-- no two numbers are written alike
pub same_number : (m n : ℕ) → m ≤ greatest_number → n ≤ greatest_number → decimal m ≡ decimal n → m ≡ n
same_number m n f g same =
    sym (digits_value-decimal own m (omega (arith, f))) ∙ ap (digits_value 0) same ∙ digits_value-decimal own n (omega (arith, g))

-- what a text has that is read as a number
record Read (most n : ℕ) (text : List ℕ) : Type 0 where
  spelled : is_spelled text ≡ true
  value : digits_value 0 text ≡ n
  few : n ≤ most

read_is : (most n : ℕ) (text : List ℕ) → decimal_of most text ≡ Some n → Read most n text
unfolding decimal_of
read_is most n text h = at_test (is_decimal most text) refl h
  where
    v : ℕ
    v = digits_value 0 text

    at_test : (b : Bool) → is_decimal most text ≡ b → (if b then Some v else None) ≡ Some n → Read most n text
    at_test true e g =
        let parts = and_parts (is_spelled text) (nat_le 1 v && nat_le v most) e in
        let below : v ≤ most = leb-true v most (and_parts (nat_le 1 v) (nat_le v most) parts.1).1 in
        let same : v ≡ n = cc in
        record { spelled = parts.0; value = same; few = rw (← same) below }
    at_test false e g = absurd (cc)

pub fits : (n : ℕ) (text : List ℕ) → decimal_of greatest_number text ≡ Some n → n ≤ greatest_number
fits n text h = (read_is greatest_number n text h).few

begins : (text : List ℕ) → has_no_leading_zero text ≡ true → (0 < length text) × (get_or text 0 0 ≡ 48 → length text ≡ 1)
begins [] h = absurd (cc)
begins (b ∷ bytes) h = (omega arith, λ e. absurd (grind (arith, nat_tests)))

-- digits without leading zero are what is written of their number
pub written : (n : ℕ) (text : List ℕ) → decimal_of greatest_number text ≡ Some n → text ≡ decimal n
written n text h =
    let read = read_is greatest_number n text h in
    let parts = and_parts (has_no_leading_zero text) (list_all is_ascii_digit text) read.spelled in
    let first = begins text parts.0 in
    let small : digits_value 0 text < 2 ^ 64 = omega (arith, read.value, read.few) in
    sym (ap decimal (sym read.value) ∙ decimal-digits_value own text parts.1 first.0 first.1 small)

no_zero_first : (bytes : List ℕ) → 48 < get_or bytes 0 0 → has_no_leading_zero bytes ≡ true
no_zero_first [] h = absurd (omega (arith, h))
no_zero_first (b ∷ bytes) h = grind (arith, nat_tests)

-- 0 is written as one digit
pub zero_written : codes "0" ≡ decimal 0
zero_written = sym (decimal_digit 0 (omega arith))

-- and another number is read as it is written
pub read_again : (n : ℕ) (text : List ℕ) → n ≤ greatest_number → (text ≡ codes "0" → ⊥) → text ≡ decimal n → decimal_of greatest_number text ≡ Some n
unfolding decimal_of
read_again n text few other is =
    elim (nat_eq n 0) as (λ v. nat_eq n 0 ≡ v → decimal_of greatest_number text ≡ Some n) [
      | true ↦ λ e. let none : n ≡ 0 = grind (arith, nat_tests) in absurd (other (is ∙ ap decimal none ∙ sym zero_written))
      | false ↦ λ e.
          let from : 0 < n = grind (arith, nat_tests) in
          let to : n < 2 ^ 64 = omega (arith, few) in
          let low : nat_le 1 n ≡ true = grind (arith, nat_tests) in
          let high : nat_le n 4294967295 ≡ true = grind (arith, nat_tests) in
          rw (is, no_zero_first (decimal n) (first_decimal n from to), digits n few, digits_value-decimal own n to, low, high) refl
    ] refl
