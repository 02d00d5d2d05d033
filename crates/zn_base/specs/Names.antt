-- Zone names, by zonecfg(8).
use Rattle.std.specs.Prelude.{ℕ, List, [], ◌∷◌, length, Bool, nat_eq, nat_lt, not, ◌||◌, ◌==◌, position, Option, Some, None, Result, Ok, Err, is_ok, bytes_eq, codes, if◌then◌else◌}
use Rattle.std.specs.Char.{is_ascii_alphanumeric}
use Rattle.std.specs.List.{starts_with}
use Rattle.zn_base.specs.declared.name.NameFault.{NameFault}
use Rattle.zn_base.specs.declared.name.NameFault.TheVariants.{Empty, TooLong, BadByte, Reserved}

-- a zone's name, as its bytes
abbrev pub Name : Type 0
Name = List ℕ

abbrev pub is_letter_or_digit : ℕ → Bool
is_letter_or_digit b = is_ascii_alphanumeric b

abbrev pub is_name_byte : ℕ → Bool
is_name_byte b = is_letter_or_digit b || b == 95 || b == 45 || b == 46

-- the first byte that doesn't belong where it stands
abbrev pub first_wrong : List ℕ → Option ℕ
first_wrong [] = None
first_wrong (b ∷ bytes) = if is_letter_or_digit b then position (λ c. not (is_name_byte c)) (b ∷ bytes) else Some 0

abbrev pub is_reserved : List ℕ → Bool
is_reserved bytes = bytes_eq bytes (codes "global") || starts_with nat_eq bytes (codes "SUNW")

abbrev pub name_unless : Option ℕ → List ℕ → Result Name NameFault
name_unless (Some place) bytes = Err (BadByte place)
name_unless None bytes = if is_reserved bytes then Err Reserved else Ok bytes

-- the name that the bytes are, or why they are none
abbrev pub name_of : List ℕ → Result Name NameFault
name_of bytes =
    if length bytes == 0 then Err Empty
    else if nat_lt 63 (length bytes) then Err TooLong
    else name_unless (first_wrong bytes) bytes

abbrev pub is_name : List ℕ → Bool
is_name bytes = is_ok (name_of bytes)
