-- The numbers of an address, and what is declared as a text without a space.
use Rattle.std.proofs.Common.{◌≡◌, ◌≤◌, ◌&&◌, ◌||◌, ◌==◌, ℕ, Bool, true, false, cond, IsTrue, List, [], ◌∷◌, codes, length, refl, ap, arith, ◌∙◌}
use Rattle.std.specs.Prelude.{bytes_eq, if◌then◌else◌, nat_le, Some, None}
use Rattle.std.specs.Char.{is_ascii_digit}
use Rattle.std.specs.List.{list_all, onto_first, slice_split}
use Rattle.std.proofs.lemmas.Bool.{and_parts}
use Rattle.std.proofs.lemmas.Bool.Decides.{nat_tests}
use Rattle.std.proofs.lemmas.Slice.Eq.{bytes_eq-Decides}
use Rattle.zn_base.specs.Cuts.{lacks}
use Rattle.zn_base.specs.Decimals.{decimal_of, digits_value, has_no_leading_zero, is_decimal, is_spelled}
use Rattle.zn_base.specs.Text.{is_text, is_text_byte}
use Rattle.zn_base.proofs.First_byte.{lacks_by}
use Rattle.datalink_table.specs.declared.claims.ClaimKind.{ClaimKind}
use Rattle.datalink_table.specs.declared.claims.ClaimKind.TheVariants.{Address, Dataset, Link}
use Rattle.export_read.proofs.Printable.{all_in, is_text-bytes}
use Rattle.config_terms.specs.Numbers.{number_of}
use Rattle.config_verify.specs.Values.{are_four_octets, is_at_most, is_dot, is_plain_address, is_up_to}
use Rattle.zone_cases.specs.declared.events.Declaration.TheVariants.{Item}
use Rattle.trace_text.specs.Declarations.{is_declaration, is_item_byte, is_item_name}

of_parts : (parts : List (List ℕ)) → (length parts == 4 && list_all (is_up_to 255) parts) ≡ are_four_octets parts
of_parts [] = refl
of_parts (a ∷ []) = refl
of_parts (a ∷ b ∷ []) = refl
of_parts (a ∷ b ∷ c ∷ []) = refl
of_parts (a ∷ b ∷ c ∷ d ∷ []) = grind (arith, nat_tests)
of_parts (a ∷ b ∷ c ∷ d ∷ e ∷ parts) = grind (arith, nat_tests)

-- four parts, of which each is a number from 0 to 255
pub four_octets : (word : List ℕ) → (length (slice_split is_dot word) == 4 && list_all (is_up_to 255) (slice_split is_dot word)) ≡ is_plain_address word
unfolding is_plain_address
four_octets word = of_parts (slice_split is_dot word)

-- a number is digits
decimal_digits : (most : ℕ) (text : List ℕ) → is_at_most 255 (decimal_of most text) ≡ true → list_all is_ascii_digit text ≡ true
unfolding decimal_of
decimal_digits most text h = elim (is_decimal most text) as (λ v. is_decimal most text ≡ v → is_at_most 255 (if v then Some (digits_value 0 text) else None) ≡ true → list_all is_ascii_digit text ≡ true) [
  | true ↦ λ e g. (and_parts (has_no_leading_zero text) _ (and_parts (is_spelled text) _ e).0).1
  | false ↦ λ e g. absurd (cc)
] refl h

octet_digits : (text : List ℕ) → is_up_to 255 text ≡ true → list_all is_ascii_digit text ≡ true
unfolding is_up_to
octet_digits text h = elim (bytes_eq text (codes "0")) as (λ v. bytes_eq text (codes "0") ≡ v → (v || is_at_most 255 (number_of text)) ≡ true → list_all is_ascii_digit text ≡ true) [
  | true ↦ λ e g. ap (list_all is_ascii_digit) ((bytes_eq-Decides text (codes "0")).0 e)
  | false ↦ λ e g. decimal_digits _ text g
] refl h

octets_digits : (parts : List (List ℕ)) → list_all (is_up_to 255) parts ≡ true → list_all (list_all is_ascii_digit) parts ≡ true
octets_digits [] h = refl
octets_digits (part ∷ parts) h =
    let each = and_parts (is_up_to 255 part) (list_all (is_up_to 255) parts) h in
    rw (octet_digits part each.0, octets_digits parts each.1) refl

-- an address is digits and dots
is_address_byte : ℕ → Bool
is_address_byte b = is_dot b || is_ascii_digit b

first_and_more : (b : ℕ) (parts : List (List ℕ)) → list_all (list_all is_ascii_digit) (onto_first b parts) ≡ true → (is_ascii_digit b ≡ true) × (list_all (list_all is_ascii_digit) parts ≡ true)
first_and_more b [] all = grind (arith, nat_tests)
first_and_more b (part ∷ parts) all = grind (arith, nat_tests)

split_bytes : (bytes : List ℕ) → list_all (list_all is_ascii_digit) (slice_split is_dot bytes) ≡ true → list_all is_address_byte bytes ≡ true
unfolding is_address_byte
split_bytes [] all = refl
split_bytes (b ∷ bytes) all =
    elim (is_dot b) as (λ v. list_all (list_all is_ascii_digit) (cond v ([] ∷ slice_split is_dot bytes) (onto_first b (slice_split is_dot bytes))) ≡ true → ((v || is_ascii_digit b) && list_all is_address_byte bytes) ≡ true) [
      | true ↦ λ g. split_bytes bytes g
      | false ↦ λ g. let parts = first_and_more b (slice_split is_dot bytes) g in rw (parts.0, split_bytes bytes parts.1) refl
    ] all

address_bytes : (address : List ℕ) → is_plain_address address ≡ true → list_all is_address_byte address ≡ true
address_bytes address h =
    let octets = (and_parts (length (slice_split is_dot address) == 4) _ (four_octets address ∙ h)).1 in
    split_bytes address (octets_digits (slice_split is_dot address) octets)

name_bytes : (name : List ℕ) → is_item_name name ≡ true → list_all is_item_byte name ≡ true
name_bytes name h = (and_parts (nat_le 1 (length name) && nat_le (length name) 63) (list_all is_item_byte name) h).1

-- each item is printable and has no space
name_printable : (b : ℕ) → is_item_byte b ≡ true → is_text_byte b ≡ true
name_printable b h = grind (arith, nat_tests)

address_printable : (b : ℕ) → is_address_byte b ≡ true → is_text_byte b ≡ true
unfolding is_address_byte
address_printable b h = grind (arith, nat_tests)

pub item_printable : (kind : ClaimKind) (word : List ℕ) → is_declaration (Item kind word) ≡ true → list_all is_text_byte word ≡ true
item_printable Link word h = all_in is_item_byte is_text_byte word name_printable (name_bytes word h)
item_printable Address word h = all_in is_address_byte is_text_byte word address_printable (address_bytes word h)
item_printable Dataset word h = all_in is_item_byte is_text_byte word name_printable (name_bytes word h)

pub item_is_text : (kind : ClaimKind) (word : List ℕ) → is_declaration (Item kind word) ≡ true → length word ≤ 4200 → IsTrue (is_text word)
item_is_text kind word h few = is_text-bytes word (item_printable kind word h) few

space_in_address : is_address_byte 32 ≡ false
unfolding is_address_byte
space_in_address = refl

pub item_lacks : (kind : ClaimKind) (word : List ℕ) → is_declaration (Item kind word) ≡ true → lacks 32 word ≡ true
item_lacks Link word h = lacks_by is_item_byte 32 refl word (name_bytes word h)
item_lacks Address word h = lacks_by is_address_byte 32 space_in_address word (address_bytes word h)
item_lacks Dataset word h = lacks_by is_item_byte 32 refl word (name_bytes word h)
