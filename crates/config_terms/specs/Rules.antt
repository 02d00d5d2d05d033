-- What a value may be.
use Rattle.std.specs.Prelude.{ℕ, List, [], ◌∷◌, length, Bool, false, nat_le, nat_eq, not, is_some, ◌&&◌, ◌||◌, ◌==◌, codes}
use Rattle.std.specs.Char.{is_ascii_alphanumeric}
use Rattle.std.specs.List.{list_all, list_any, starts_with}
use Rattle.std.specs.Str.{bytes_eq}
use Rattle.zn_base.specs.Names.{is_name_byte}
use Rattle.zn_base.specs.Path.{is_path}
use Rattle.zn_base.specs.Text.{is_text_byte}
use Rattle.config_terms.specs.declared.rules.Rule.{Rule}
use Rattle.config_terms.specs.declared.rules.Rule.TheVariants.{RootedPath, OwnPath, Flag, ShortName, Simple, IpWay, HostId, Number, TypeWord, OptionWord, ControlName, AttributeName, AttributeForm}
use Rattle.config_terms.specs.Numbers.{number_of}

-- a letter or a digit
abbrev pub is_alphanumeric : ℕ → Bool
is_alphanumeric b = is_ascii_alphanumeric b

-- a letter, a digit, `_`, `-`, `.` or `/`
abbrev pub is_option_byte : ℕ → Bool
is_option_byte b = is_name_byte b || b == 47

-- a printable byte other than `"`
abbrev pub is_simple_byte : ℕ → Bool
is_simple_byte b = is_text_byte b && not (b == 34)

-- a digit or `a` to `f`
abbrev pub is_hex_byte : ℕ → Bool
is_hex_byte b = (nat_le 48 b && nat_le b 57) || (nat_le 97 b && nat_le b 102)

-- so many bytes, each of a class
abbrev pub is_run : (ℕ → Bool) → ℕ → ℕ → List ℕ → Bool
is_run class low high value = nat_le low (length value) && nat_le (length value) high && list_all class value

-- whether the first byte, if there is one, is of a class
abbrev pub begins_in : (ℕ → Bool) → List ℕ → Bool
begins_in class [] = false
begins_in class (b ∷ bytes) = class b

abbrev pub is_one_of : List (List ℕ) → List ℕ → Bool
is_one_of words value = list_any (bytes_eq value) words

-- whether a rule allows a value; an empty one, where a rule allows it, unsets the property
unfoldable pub obeys : Rule → List ℕ → Bool
obeys RootedPath value = is_path value
obeys OwnPath value = is_path value && not (bytes_eq value (codes "/"))
obeys Flag value = is_one_of (codes "true" ∷ codes "false" ∷ []) value
obeys ShortName value = is_run is_name_byte 0 32 value
obeys Simple value = is_run is_simple_byte 0 1023 value
obeys IpWay value = is_one_of (codes "shared" ∷ codes "exclusive" ∷ []) value
obeys HostId value = is_run is_hex_byte 0 8 value && not (bytes_eq value (codes "ffffffff"))
obeys Number value = is_some (number_of value)
obeys TypeWord value = is_run is_alphanumeric 1 15 value
obeys OptionWord value = is_run is_option_byte 1 63 value
obeys ControlName value = is_run is_name_byte 1 63 value
obeys AttributeName value =
    is_run is_name_byte 1 63 value && begins_in is_alphanumeric value && not (starts_with nat_eq value (codes "zone"))
obeys AttributeForm value = is_one_of (codes "int" ∷ codes "uint" ∷ codes "boolean" ∷ codes "string" ∷ []) value

-- unset, or a value that the rule allows
unfoldable pub fits : Rule → List ℕ → Bool
fits rule value = length value == 0 || obeys rule value
