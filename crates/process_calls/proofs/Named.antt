-- Few printable bytes are a text, and words of them have no space.
use Rattle.std.proofs.Common.{◌≡◌, ◌≤◌, ℕ, Bool, true, false, not, ◌&&◌, nat_le, nat_lt, List, [], ◌∷◌, length, None, IsTrue, refl, arith, rules}
use Rattle.std.specs.Prelude.{position}
use Rattle.std.specs.Char.{is_ascii_graphic}
use Rattle.std.specs.List.{list_all, position_or_len}
use Rattle.std.proofs.lemmas.Bool.{and_parts, le-ltb, leb-true}
use Rattle.std.proofs.lemmas.Bool.Decides.{nat_tests}
use Rattle.zn_base.specs.Cuts.{lacks}
use Rattle.zn_base.specs.Names.{is_letter_or_digit, is_name_byte}
use Rattle.zn_base.specs.Text.{is_text, is_text_byte}
use Rattle.zn_base.proofs.First_byte.{lacks_by}
use Rattle.process_calls.specs.Calls.{is_fstype, is_process_name, is_run, is_special}

-- bytes of a class are printable
IsPrintable : (ℕ → Bool) → Type 0
IsPrintable class = (b : ℕ) → class b ≡ true → is_text_byte b ≡ true

name_bytes : IsPrintable is_name_byte
unfolding IsPrintable
name_bytes b h = grind (arith, nat_tests)

letters : IsPrintable is_letter_or_digit
unfolding IsPrintable
letters b h = grind (arith, nat_tests)

graphic : IsPrintable is_ascii_graphic
unfolding IsPrintable
graphic b h = grind (arith, nat_tests)

none_reached : (class : ℕ → Bool) → IsPrintable class → (xs : List ℕ) → list_all class xs ≡ true → position_or_len (λ b. not (is_text_byte b)) xs ≡ length xs
unfolding IsPrintable
none_reached class printable [] h = refl
none_reached class printable (x ∷ xs) h =
    let parts = and_parts (class x) (list_all class xs) h in
    rw (printable x parts.0, none_reached class printable xs parts.1) (omega arith)

none_bad : (class : ℕ → Bool) → IsPrintable class → (xs : List ℕ) → list_all class xs ≡ true → position (λ b. not (is_text_byte b)) xs ≡ None
none_bad class printable xs h =
    let outside : nat_lt (length xs) (length xs) ≡ false = grind (arith, nat_tests) in
    rw (none_reached class printable xs h, outside) refl

run_is_text : (class : ℕ → Bool) (most : ℕ) (word : List ℕ) → IsPrintable class → most ≤ 4200 → is_run class most word ≡ true → IsTrue (is_text word)
run_is_text class most word printable few h =
    let all = and_parts (nat_le 1 (length word) && nat_le (length word) most) (list_all class word) h in
    let size = leb-true (length word) most (and_parts (nat_le 1 (length word)) (nat_le (length word) most) all.0).1 in
    rw (none_bad class printable word all.1, le-ltb 4200 (length word) (omega (arith, size, few))) (search rules)

pub name_is_text : (name : List ℕ) → is_process_name name ≡ true → IsTrue (is_text name)
name_is_text name h = run_is_text is_name_byte 16 name name_bytes (omega arith) h

pub fstype_is_text : (word : List ℕ) → is_fstype word ≡ true → IsTrue (is_text word)
fstype_is_text word h = run_is_text is_letter_or_digit 15 word letters (omega arith) h

-- what is mounted is a run, whatever its type
pub special_run : (fstype word : List ℕ) → is_special fstype word ≡ true → is_run is_ascii_graphic 4200 word ≡ true
special_run fstype word h = (and_parts (is_run is_ascii_graphic 4200 word) _ h).0

pub special_is_text : (fstype word : List ℕ) → is_special fstype word ≡ true → IsTrue (is_text word)
special_is_text fstype word h = run_is_text is_ascii_graphic 4200 word graphic (omega arith) (special_run fstype word h)

-- a run of a class without the space has none
pub run_lacks : (class : ℕ → Bool) (most : ℕ) (word : List ℕ) → class 32 ≡ false → is_run class most word ≡ true → lacks 32 word ≡ true
run_lacks class most word other h =
    lacks_by class 32 other word (and_parts (nat_le 1 (length word) && nat_le (length word) most) (list_all class word) h).1
