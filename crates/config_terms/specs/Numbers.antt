-- Decimal numbers as zonecfg(8) takes them: from 1 to 18446744073709551615, without leading zero.
use Rattle.std.specs.Prelude.{ℕ, List, Bool, Option}
use Rattle.zn_base.specs.Decimals.{decimal_of, is_counted}

-- whether a number fits into 64 bits and isn't 0
abbrev pub is_limit : ℕ → Bool
is_limit n = is_counted 18446744073709551615 n

-- the number that a text is
abbrev pub number_of : List ℕ → Option ℕ
number_of text = decimal_of 18446744073709551615 text
