-- A brand's name is a text.
use Rattle.std.proofs.Common.{◌≡◌, ℕ, true, false, not, List, [], ◌∷◌, length, arith, nat_lt, refl}
use Rattle.std.specs.Bool.{IsTrue}
use Rattle.std.specs.Prelude.{◌&&◌, nat_le}
use Rattle.std.specs.List.{list_all, position_or_len}
use Rattle.std.proofs.lemmas.Bool.{and_parts}
use Rattle.std.proofs.lemmas.Bool.Decides.{nat_tests}
use Rattle.zn_base.specs.Text.{is_text, is_text_byte}
use Rattle.brand_hooks.specs.Brands.{is_brand_byte, is_brand_name}

printable : (b : ℕ) → is_brand_byte b ≡ true → is_text_byte b ≡ true
printable b h = grind (arith, nat_tests)

none_bad : (bytes : List ℕ) → list_all is_brand_byte bytes ≡ true → position_or_len (λ b. not (is_text_byte b)) bytes ≡ length bytes
none_bad [] h = refl
none_bad (b ∷ bytes) h =
    let h : (is_brand_byte b ≡ true) × (list_all is_brand_byte bytes ≡ true) = and_parts (is_brand_byte b) (list_all is_brand_byte bytes) h in
    rw (printable b h.0) (let rest = none_bad bytes h.1 in grind arith)

pub brand_text : (name : List ℕ) → is_brand_name name ≡ true → IsTrue (is_text name)
brand_text name h =
    let a : ((nat_le 1 (length name) && nat_le (length name) 32) ≡ true) × (list_all is_brand_byte name ≡ true) = and_parts _ _ h in
    let b : (nat_le 1 (length name) ≡ true) × (nat_le (length name) 32 ≡ true) = and_parts _ _ a.0 in
    let past : nat_lt (length name) (length name) ≡ false = grind (arith, nat_tests) in
    let short : nat_lt 4200 (length name) ≡ false = grind (arith, nat_tests) in
    rw (none_bad name a.1) (rw past (rw short refl))
