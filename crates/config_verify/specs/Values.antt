-- Addresses, and the values of attributes.
use Rattle.std.specs.Prelude.{ℕ, List, [], ◌∷◌, Bool, true, false, nat_le, ◌&&◌, ◌||◌, ◌==◌, Option, Some, None, codes, if◌then◌else◌}
use Rattle.std.specs.Char.{is_ascii_digit}
use Rattle.std.specs.List.{before_first, slice_split}
use Rattle.std.specs.Str.{bytes_eq}
use Rattle.zn_base.specs.Path.{is_slash}
use Rattle.config_terms.specs.Numbers.{number_of}
use Rattle.config_terms.specs.Rules.{is_one_of, is_run}

abbrev pub is_dot : ℕ → Bool
is_dot b = b == 46

abbrev pub is_at_most : ℕ → Option ℕ → Bool
is_at_most most None = false
is_at_most most (Some n) = nat_le n most

-- a decimal number from 0 to a greatest one, without leading zeros
unfoldable pub is_up_to : ℕ → List ℕ → Bool
is_up_to most text = bytes_eq text (codes "0") || is_at_most most (number_of text)

abbrev pub are_four_octets : List (List ℕ) → Bool
are_four_octets (a ∷ b ∷ c ∷ d ∷ []) = is_up_to 255 a && is_up_to 255 b && is_up_to 255 c && is_up_to 255 d
are_four_octets words = false

-- four numbers from 0 to 255, with dots between them
unfoldable pub is_plain_address : List ℕ → Bool
is_plain_address text = are_four_octets (slice_split is_dot text)

abbrev pub has_prefix : List (List ℕ) → Bool
has_prefix (a ∷ []) = is_plain_address a
has_prefix (a ∷ n ∷ []) = is_plain_address a && is_up_to 32 n
has_prefix parts = false

-- such an address, and perhaps a slash and a number from 0 to 32
unfoldable pub is_address : List ℕ → Bool
is_address text = has_prefix (slice_split is_slash text)

-- an address without its prefix
unfoldable pub without_prefix : List ℕ → List ℕ
without_prefix text = before_first is_slash text

-- 1 to 18 digits
unfoldable pub is_unsigned : List ℕ → Bool
is_unsigned text = is_run is_ascii_digit 1 18 text

abbrev pub without_sign : List ℕ → List ℕ
without_sign [] = []
without_sign (b ∷ bytes) = if b == 45 then bytes else b ∷ bytes

-- whether a value is of the type of an attribute; every value is a string
unfoldable pub is_of_form : List ℕ → List ℕ → Bool
is_of_form form value =
    if bytes_eq form (codes "int") then is_unsigned (without_sign value)
    else (if bytes_eq form (codes "uint") then is_unsigned value
    else (if bytes_eq form (codes "boolean") then is_one_of (codes "true" ∷ codes "false" ∷ []) value else true))
