-- Decimal numbers from 1 to a greatest one, without leading zero.
use Rattle.std.specs.Prelude.{ℕ, List, [], ◌∷◌, Bool, false, nat_le, not, ◌+◌, ◌-◌, ◌*◌, ◌&&◌, ◌==◌, Option, Some, None, if◌then◌else◌}
use Rattle.std.specs.Char.{is_ascii_digit}
use Rattle.std.specs.List.{list_all}

-- what digits say after the digits of a number
abbrev pub digits_value : ℕ → List ℕ → ℕ
digits_value n [] = n
digits_value n (b ∷ bytes) = digits_value (10 * n + (b - 48)) bytes

-- whether a text that is digits begins with another than 0
abbrev pub has_no_leading_zero : List ℕ → Bool
has_no_leading_zero [] = false
has_no_leading_zero (b ∷ bytes) = not (b == 48)

-- whether a number is one from 1 to a greatest one
abbrev pub is_counted : ℕ → ℕ → Bool
is_counted most n = nat_le 1 n && nat_le n most

-- whether a text is digits, the first of them not 0
abbrev pub is_spelled : List ℕ → Bool
is_spelled text = has_no_leading_zero text && list_all is_ascii_digit text

abbrev pub is_decimal : ℕ → List ℕ → Bool
is_decimal most text = is_spelled text && is_counted most (digits_value 0 text)

-- the number that a text is
unfoldable pub decimal_of : ℕ → List ℕ → Option ℕ
decimal_of most text = if is_decimal most text then Some (digits_value 0 text) else None
