-- Texts: at most 4,200 bytes from space to tilde.
use Rattle.std.specs.Prelude.{ℕ, List, length, Bool, nat_le, nat_lt, not, ◌&&◌, position, Option, Some, None, Result, Ok, Err, is_ok, if◌then◌else◌}
use Rattle.zn_base.specs.declared.text.TextFault.{TextFault}
use Rattle.zn_base.specs.declared.text.TextFault.TheVariants.{BadText, TextLong}

abbrev pub is_text_byte : ℕ → Bool
is_text_byte b = nat_le 32 b && nat_le b 126

-- with no bad byte, only the length is left to judge
abbrev pub text_unless : Option ℕ → List ℕ → Result (List ℕ) TextFault
text_unless (Some place) bytes = Err (BadText place)
text_unless None bytes = if nat_lt 4200 (length bytes) then Err TextLong else Ok bytes

-- the text that the bytes are, or why they are none
abbrev pub text_of : List ℕ → Result (List ℕ) TextFault
text_of bytes = text_unless (position (λ b. not (is_text_byte b)) bytes) bytes

abbrev pub is_text : List ℕ → Bool
is_text bytes = is_ok (text_of bytes)
