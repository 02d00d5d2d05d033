-- What a text parses to has sixteen bytes.
use Rattle.std.proofs.Common.{◌≡◌, ℕ, ◌+◌, ◌*◌, ◌<◌, Bool, true, false, ◌&&◌, List, length, slice_index, take, drop, Option, Some, None, unwrap_or, if◌then◌else◌, refl, ap, arith}
use Rattle.std.specs.Prelude.{◌==◌}
use Rattle.std.specs.List.{list_all}
use Rattle.std.proofs.lemmas.Bool.{and_parts}
use Rattle.std.proofs.lemmas.Bool.Decides.{nat_tests}
use Rattle.std.proofs.lemmas.List.Sums.{AllPass-from_list_all}
use Rattle.uuid.specs.Text.{by_index, byte_of_digits, close_brace, digits_of, has_hyphens, has_urn_prefix, is_hex_digit, open_brace, parsed, parsed_braced, parsed_hyphenated, parsed_simple, parsed_urn, value_of}
use Rattle.uuid.proofs.TextLemmas.{by_index_at, by_index_length}
use Rattle.uuid_text.specs.Text.{IsUuid}

value_small : (c : ℕ) → is_hex_digit c ≡ true → value_of c < 16
value_small c hex = grind (arith, nat_tests)

digits_give : (hex : List ℕ) → length hex ≡ 32 → list_all is_hex_digit hex ≡ true → IsUuid (by_index 16 (byte_of_digits hex))
digits_give hex len digits = record {
  sixteen = by_index_length 16 (byte_of_digits hex);
  bytes = λ k d inside.
      let here : k < 16 = omega (arith, by_index_length 16 (byte_of_digits hex)) in
      let passes = AllPass-from_list_all is_hex_digit hex digits in
      let high = value_small (slice_index hex (2 * k)) (passes (2 * k) 0 (omega arith)) in
      let low = value_small (slice_index hex (2 * k + 1)) (passes (2 * k + 1) 0 (omega arith)) in
      rw (by_index_at 16 (byte_of_digits hex) k d here) (omega (arith, high, low));
}

some_if : (b : Bool) (u v : List ℕ) → Some u ≡ (if b then Some v else None) → (b ≡ true) × (u ≡ v)
some_if true u v e = (refl, ap (λ (o : Option (List ℕ)). unwrap_or o u) e)
some_if false u v e = absurd (cc)

simple : (hex u : List ℕ) → Some u ≡ parsed_simple hex → IsUuid u
simple hex u e =
    let found = some_if ((length hex == 32) && list_all is_hex_digit hex) u (by_index 16 (byte_of_digits hex)) e in
    let parts = and_parts (length hex == 32) (list_all is_hex_digit hex) found.0 in
    rw found.1 (digits_give hex (grind (arith, nat_tests)) parts.1)

-- whatever comes of a test, it is one of some ways to parse
either : (b : Bool) (u : List ℕ) (x y : Option (List ℕ)) → (Some u ≡ x → IsUuid u) → (Some u ≡ y → IsUuid u) → Some u ≡ (if b then x else y) → IsUuid u
either true u x y f g e = f e
either false u x y f g e = g e

never : (u : List ℕ) → Some u ≡ None → IsUuid u
never u e = absurd (cc)

hyphenated : (s u : List ℕ) → Some u ≡ parsed_hyphenated s → IsUuid u
hyphenated s u = either ((length s == 36) && has_hyphens s) u _ _ (simple (digits_of s) u) (never u)

braced : (s u : List ℕ) → Some u ≡ parsed_braced s → IsUuid u
braced s u = either ((length s == 38) && (slice_index s 0 == open_brace) && (slice_index s 37 == close_brace)) u _ _ (hyphenated (take 36 (drop 1 s)) u) (never u)

urn : (s u : List ℕ) → Some u ≡ parsed_urn s → IsUuid u
urn s u = either ((length s == 45) && has_urn_prefix s) u _ _ (hyphenated (drop 9 s) u) (never u)

pub parsed_is_uuid : (s u : List ℕ) → Some u ≡ parsed s → IsUuid u
parsed_is_uuid s u =
    either (length s == 32) u _ _ (simple s u)
    (either (length s == 36) u _ _ (hyphenated s u) (either (length s == 38) u _ _ (braced s u) (either (length s == 45) u _ _ (urn s u) (never u))))
