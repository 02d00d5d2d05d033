-- A UUID and its text, by RFC 9562, section 4.
use Rattle.std.specs.Prelude.{◌≡◌, ℕ, ◌<◌, List, length, All, Bool, nat_le, ◌==◌, ◌&&◌, ◌||◌}
use Rattle.uuid.specs.Text.{hyphenated_text, lower}

-- sixteen bytes
pub record IsUuid (uuid : List ℕ) : Type 0 where
  pub sixteen : length uuid ≡ 16
  pub bytes : All (λ b. b < 256) uuid

-- the one text of a UUID: hyphenated, in lower case
abbrev pub uuid_text : List ℕ → List ℕ
uuid_text uuid = hyphenated_text lower uuid

-- what stands in a text: a digit from `0` to `9` or from `a` to `f`, or a hyphen
abbrev pub is_uuid_byte : ℕ → Bool
is_uuid_byte b = (nat_le 48 b && nat_le b 57) || (nat_le 97 b && nat_le b 102) || b == 45

-- a law: no two UUIDs have one text
abbrev pub UuidsDiffer : Type 0
UuidsDiffer = (a b : List ℕ) → IsUuid a → IsUuid b → uuid_text a ≡ uuid_text b → a ≡ b
