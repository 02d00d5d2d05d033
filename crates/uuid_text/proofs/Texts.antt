-- The text of a UUID: its length, what stands in it, and that it says its UUID.
use Rattle.std.proofs.Common.{◌≡◌, inl, ℕ, ◌/◌, ◌%◌, ◌<◌, true, false, List, length, slice_index, Some, if◌then◌else◌, refl, ap, sym, ◌∙◌, arith}
use Rattle.std.specs.Prelude.{◌==◌}
use Rattle.std.specs.List.{list_all}
use Rattle.std.proofs.lemmas.Bool.Decides.{nat_tests}
use Rattle.std.proofs.lemmas.List.Sums.{list_all-from_AllPass}
use Rattle.uuid.specs.Text.{digit_place, hex_digit, hyphen, is_hyphen_place, lower, nibble, parsed}
use Rattle.uuid.proofs.RoundTrips.{parses_hyphenated}
use Rattle.uuid.proofs.TextLemmas.{by_index_at, by_index_length}
use Rattle.uuid_text.specs.Text.{is_uuid_byte, uuid_text, IsUuid, UuidsDiffer}

pub uuid_text-length : (uuid : List ℕ) → length (uuid_text uuid) ≡ 36
uuid_text-length uuid = by_index_length 36 _

digit : (d : ℕ) → d < 16 → is_uuid_byte (hex_digit lower d) ≡ true
digit d small = grind (arith, nat_tests)

nibble_small : (uuid : List ℕ) (k : ℕ) → nibble uuid k < 16
nibble_small uuid k =
    elim (k % 2 == 0) as (λ v. (if v then slice_index uuid (k / 2) / 16 % 16 else slice_index uuid (k / 2) % 16) < 16) [ true ↦ omega arith | false ↦ omega arith ]

abbrev byte_at : List ℕ → ℕ → ℕ
byte_at uuid k = if is_hyphen_place k then hyphen else hex_digit lower (nibble uuid (digit_place k))

text_byte : (uuid : List ℕ) (k : ℕ) → is_uuid_byte (byte_at uuid k) ≡ true
text_byte uuid k =
    elim (is_hyphen_place k) as (λ v. is_uuid_byte (if v then hyphen else hex_digit lower (nibble uuid (digit_place k))) ≡ true) [
      | true ↦ refl
      | false ↦ digit (nibble uuid (digit_place k)) (nibble_small uuid (digit_place k))
    ]

pub uuid_text-bytes : (uuid : List ℕ) → list_all is_uuid_byte (uuid_text uuid) ≡ true
uuid_text-bytes uuid =
    list_all-from_AllPass is_uuid_byte (uuid_text uuid) (λ k d inside.
    let here : k < 36 = omega (arith, uuid_text-length uuid) in
    rw (by_index_at 36 (byte_at uuid) k d here) (text_byte uuid k))

same_some : (a b : List ℕ) → Some a ≡ Some b → a ≡ b
same_some a b e = cc

pub text_parses : (uuid : List ℕ) → IsUuid uuid → parsed (uuid_text uuid) ≡ Some uuid
text_parses uuid is = sym (parses_hyphenated lower uuid (inl refl) is.sixteen is.bytes)

pub uuid_of_text : UuidsDiffer
uuid_of_text a b f g same = same_some a b (sym (text_parses a f) ∙ ap parsed same ∙ text_parses b g)
