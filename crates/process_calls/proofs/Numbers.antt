-- The numbers of processes, as they are read and written.
use Rattle.std.proofs.Common.{◌≡◌, ◌<◌, ◌≤◌, ◌∙◌, ◌^◌, ℕ, List, [], ◌∷◌, Bool, true, false, ◌&&◌, Some, None, codes, get_or, length, nat_eq, refl, sym, ap, arith, rules}
use Rattle.std.specs.Prelude.{bytes_eq, if◌then◌else◌, nat_le, ◌==◌}
use Rattle.std.specs.Char.{is_ascii_digit}
use Rattle.std.specs.Fmt.{decimal}
use Rattle.std.specs.List.{list_all}
use Rattle.std.proofs.lemmas.Bool.{and_parts, leb-true}
use Rattle.std.proofs.lemmas.Bool.Decides.{nat_tests}
use Rattle.std.proofs.lemmas.Fmt.{decimal-digits_value, decimal_digit, digits_decimal, digits_value-decimal, first_decimal}
use Rattle.std.proofs.lemmas.Slice.Eq.{bytes_eq-Decides}
use Rattle.std.proofs.lemmas.Str.Parse.{IsNumeralModel, numerals_by_fold}
use Rattle.zn_base.specs.Cuts.{lacks}
use Rattle.zn_base.specs.Decimals.{decimal_of, digits_value, has_no_leading_zero, is_decimal, is_spelled}
use Rattle.zn_base.proofs.First_byte.{lacks_by}
use Rattle.process_calls.specs.Calls.{greatest_pid, pid_in}

own : IsNumeralModel (λ ds. list_all is_ascii_digit ds ≡ true) (digits_value 0)
own = numerals_by_fold (λ ds. list_all is_ascii_digit ds ≡ true) (search rules) digits_value (search rules)

-- what a text has that is read as a number
record Read (most n : ℕ) (text : List ℕ) : Type 0 where
  spelled : is_spelled text ≡ true
  value : digits_value 0 text ≡ n
  few : n ≤ most

read_is : (most n : ℕ) (text : List ℕ) → decimal_of most text ≡ Some n → Read most n text
unfolding decimal_of
read_is most n text h = at_test (is_decimal most text) refl h
  where
    v : ℕ
    v = digits_value 0 text

    at_test : (b : Bool) → is_decimal most text ≡ b → (if b then Some v else None) ≡ Some n → Read most n text
    at_test true e g =
        let parts = and_parts (is_spelled text) (nat_le 1 v && nat_le v most) e in
        let below : v ≤ most = leb-true v most (and_parts (nat_le 1 v) (nat_le v most) parts.1).1 in
        let same : v ≡ n = cc in
        record { spelled = parts.0; value = same; few = rw (← same) below }
    at_test false e g = absurd (cc)

pub fits : (most n : ℕ) (text : List ℕ) → decimal_of most text ≡ Some n → n ≤ most
fits most n text h = (read_is most n text h).few

begins : (text : List ℕ) → has_no_leading_zero text ≡ true → (0 < length text) × (get_or text 0 0 ≡ 48 → length text ≡ 1)
begins [] h = absurd (cc)
begins (b ∷ bytes) h = (omega arith, λ e. absurd (grind (arith, nat_tests)))

-- digits without leading zero are what is written of their number
written : (n : ℕ) (text : List ℕ) → decimal_of greatest_pid text ≡ Some n → decimal n ≡ text
written n text h =
    let read = read_is greatest_pid n text h in
    let parts = and_parts (has_no_leading_zero text) (list_all is_ascii_digit text) read.spelled in
    let first = begins text parts.0 in
    let small : digits_value 0 text < 2 ^ 64 = omega (arith, read.value, read.few) in
    ap decimal (sym read.value) ∙ decimal-digits_value own text parts.1 first.0 first.1 small

pub pid_written : (n : ℕ) (text : List ℕ) → pid_in text ≡ Some n → (n ≤ greatest_pid) × (decimal n ≡ text)
pid_written n text h =
    elim (bytes_eq text (codes "0")) as (λ v. bytes_eq text (codes "0") ≡ v → (if v then Some 0 else decimal_of greatest_pid text) ≡ Some n → (n ≤ greatest_pid) × (decimal n ≡ text)) [
      | true ↦ λ e g.
          let zero_is : 0 ≡ n = cc in
          let text_is : text ≡ codes "0" = (bytes_eq-Decides text (codes "0")).0 e in
          (omega arith, ap decimal (sym zero_is) ∙ decimal_digit 0 (omega arith) ∙ sym text_is)
      | false ↦ λ e g. (fits greatest_pid n text g, written n text g)
    ] refl h

no_zero_first : (bytes : List ℕ) → 48 < get_or bytes 0 0 → (has_no_leading_zero bytes ≡ true) × (bytes_eq bytes (codes "0") ≡ false)
no_zero_first [] h = absurd (omega (arith, h))
no_zero_first (b ∷ bytes) h =
    let other : (b == 48) ≡ false = grind (arith, nat_tests) in
    (rw other refl, rw other refl)

-- a number is read as it is written, and has no space
pub pid_again : (n : ℕ) → n ≤ greatest_pid → pid_in (decimal n) ≡ Some n
unfolding decimal_of
pid_again n few =
    elim (nat_eq n 0) as (λ v. nat_eq n 0 ≡ v → pid_in (decimal n) ≡ Some n) [
      | true ↦ λ e. let none : n ≡ 0 = grind (arith, nat_tests) in rw (none, decimal_digit 0 (omega arith)) refl
      | false ↦ λ e.
          let from : 0 < n = grind (arith, nat_tests) in
          let to : n < 2 ^ 64 = omega (arith, few) in
          let first = no_zero_first (decimal n) (first_decimal n from to) in
          let low : nat_le 1 n ≡ true = grind (arith, nat_tests) in
          let high : nat_le n 4294967295 ≡ true = grind (arith, nat_tests) in
          rw (first.1, first.0, digits_decimal own n to, digits_value-decimal own n to, low, high) refl
    ] refl

pub pid_lacks : (n : ℕ) → n ≤ greatest_pid → lacks 32 (decimal n) ≡ true
pid_lacks n few = lacks_by is_ascii_digit 32 refl (decimal n) (digits_decimal own n (omega (arith, few)))
