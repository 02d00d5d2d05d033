-- The line of a command says that command.
use Rattle.std.proofs.Common.{◌≡◌, ◌<◌, ◌+◌, ◌-◌, suc, ℕ, Bool, true, false, cond, ◌&&◌, List, [], ◌∷◌, ◌++◌, length, drop, Some, refl, ap, sym, subst, ◌∙◌, arith, append_assoc, length-append, codes, rules, get_or, ◌^◌}
use Rattle.std.specs.Str.{bytes_eq}
use Rattle.std.specs.Prelude.{◌==◌, decimal}
use Rattle.std.specs.List.{list_all, list_any, flat_map, position_or_len, before_first, after_first, slice_split}
use Rattle.std.proofs.lemmas.Bool.{false≢true, or_parts, and_parts}
use Rattle.std.proofs.lemmas.Fmt.{digits_decimal, digits_value-decimal, first_decimal}
use Rattle.std.proofs.lemmas.Str.Parse.{IsNumeralModel, numerals_by_fold}
use Rattle.std.specs.Char.{is_ascii_digit}
use Rattle.std.proofs.lemmas.Bool.Decides.{nat_tests}
use Rattle.std.proofs.lemmas.List.{take_at}
use Rattle.zn_base.specs.Text.{is_text}
use Rattle.config_terms.specs.Numbers.{is_limit, number_of}
use Rattle.zn_base.specs.Decimals.{decimal_of, digits_value, has_no_leading_zero}
use Rattle.config_terms.specs.Texts.{is_bare_byte, value_text, limit_text, options_text, action}
use Rattle.config_terms.specs.declared.terms.Kind.{Kind}
use Rattle.config_terms.specs.declared.terms.Kind.TheVariants as kind
use Rattle.config_terms.specs.declared.terms.Limit.{Limit}
use Rattle.export_read.specs.Commands.{line_of}
use Rattle.export_read.specs.Reading.{is_equals, is_comma, without_last, unquoted, setting_of, limit_of, command_of}
use Rattle.export_read.specs.declared.command.Command.{Command}
use Rattle.export_read.specs.declared.command.Command.TheVariants.{Create, Set, Open, Options, Value, End}

-- where a byte of a class first stands
first_at : (class : ℕ → Bool) (front rest : List ℕ) (b : ℕ) → list_any class front ≡ false → class b ≡ true → position_or_len class (front ++ b ∷ rest) ≡ length front
first_at class [] rest b h is = rw is refl
first_at class (c ∷ front) rest b h is =
    let h : (class c ≡ false) × (list_any class front ≡ false) = or_parts (class c) (list_any class front) h in
    rw (h.0, first_at class front rest b h.1 is) (omega arith)

before_at : (class : ℕ → Bool) (front rest : List ℕ) (b : ℕ) → list_any class front ≡ false → class b ≡ true → before_first class (front ++ b ∷ rest) ≡ front
before_at class front rest b h is = rw (first_at class front rest b h is) (take_at front (b ∷ rest) (length front) refl)

drop_past : (front rest : List ℕ) (b : ℕ) → drop (length front + 1) (front ++ b ∷ rest) ≡ rest
drop_past [] rest b = refl
drop_past (c ∷ front) rest b = let n : suc (length front) + 1 ≡ suc (length front + 1) = omega arith in rw n (drop_past front rest b)

after_at : (class : ℕ → Bool) (front rest : List ℕ) (b : ℕ) → list_any class front ≡ false → class b ≡ true → after_first class (front ++ b ∷ rest) ≡ rest
after_at class front rest b h is = rw (first_at class front rest b h is) (drop_past front rest b)

-- a bare value does not begin with a quote
bare_again : (value : List ℕ) → list_all is_bare_byte value ≡ true → unquoted value ≡ value
bare_again [] h = refl
bare_again (b ∷ bytes) h =
    elim (b == 34) as (λ v. (b == 34) ≡ v → cond v (without_last bytes) (b ∷ bytes) ≡ b ∷ bytes) [
      | true ↦ λ e. let is : b ≡ 34 = grind (arith, nat_tests) in
          let P : ℕ → Type 0 = λ c. (is_bare_byte c && list_all is_bare_byte bytes) ≡ true in
          absurd (false≢true (subst P is h))
      | false ↦ λ e. refl
    ] refl

last_off : (bytes : List ℕ) (b : ℕ) → without_last (bytes ++ b ∷ []) ≡ bytes
last_off bytes b = take_at bytes (b ∷ []) (length (bytes ++ b ∷ []) - 1) (omega (arith, length-append bytes (b ∷ [])))

value_again : (value : List ℕ) → unquoted (value_text value) ≡ value
value_again value =
    elim (list_all is_bare_byte value) as (λ v. list_all is_bare_byte value ≡ v → unquoted (cond v value (34 ∷ value ++ 34 ∷ [])) ≡ value) [
      | true ↦ λ e. bare_again value e
      | false ↦ λ e. last_off value 34
    ] refl

-- a command whose line says it
abbrev pub IsPlain : Command → Type 0
IsPlain Create = Unit {0}
IsPlain (Set name value) = (list_any is_equals name ≡ false) × (is_text name ≡ true) × (is_text value ≡ true)
IsPlain (Open kind) = Unit {0}
IsPlain (Options []) = ⊥
IsPlain (Options (o ∷ options)) = (list_all is_text (o ∷ options) ≡ true) × (list_any (list_any is_comma) (o ∷ options) ≡ false)
IsPlain (Value limit) = is_limit limit.limit ≡ true
IsPlain End = Unit {0}

set_again : (name value : List ℕ) → list_any is_equals name ≡ false → is_text name ≡ true → is_text value ≡ true → setting_of (name ++ (codes "=" ++ value_text value)) ≡ Some (Set name value)
set_again name value clean n v =
    let before = before_at is_equals name (value_text value) 61 clean refl in
    let after = after_at is_equals name (value_text value) 61 clean refl in
    rw (before, after, value_again value, n, v) refl

kind_again : (k : Kind) → command_of (line_of (Open k)) ≡ Some (Open k)
unfolding command_of
kind_again kind.Fs = refl
kind_again kind.Net = refl
kind_again kind.Device = refl
kind_again kind.Rctl = refl
kind_again kind.Attr = refl
kind_again kind.Dataset = refl

-- pieces without a comma, with commas between them, are cut again
split_piece : (o rest : List ℕ) (os : List (List ℕ)) → list_any is_comma o ≡ false → slice_split is_comma rest ≡ [] ∷ os → slice_split is_comma (o ++ rest) ≡ o ∷ os
split_piece [] rest os clean e = e
split_piece (b ∷ o) rest os clean e =
    let clean : (is_comma b ≡ false) × (list_any is_comma o ≡ false) = or_parts (is_comma b) (list_any is_comma o) clean in
    rw (clean.0, split_piece o rest os clean.1 e) refl

split_rest : (os : List (List ℕ)) → list_any (list_any is_comma) os ≡ false → slice_split is_comma (flat_map (λ x. 44 ∷ x) os) ≡ [] ∷ os
split_rest [] clean = refl
split_rest (o ∷ os) clean =
    let clean : (list_any is_comma o ≡ false) × (list_any (list_any is_comma) os ≡ false) = or_parts (list_any is_comma o) (list_any (list_any is_comma) os) clean in
    ap (λ l. [] ∷ l) (split_piece o (flat_map (λ x. 44 ∷ x) os) os clean.0 (split_rest os clean.1))

options_again : (o : List ℕ) (os : List (List ℕ)) → IsPlain (Options (o ∷ os)) → command_of (line_of (Options (o ∷ os))) ≡ Some (Options (o ∷ os))
unfolding command_of options_text
options_again o os h =
    let clean : (list_any is_comma o ≡ false) × (list_any (list_any is_comma) os ≡ false) = or_parts (list_any is_comma o) (list_any (list_any is_comma) os) h.1 in
    let whole : o ++ (flat_map (λ x. 44 ∷ x) os ++ codes "]") ≡ (o ++ flat_map (λ x. 44 ∷ x) os) ++ 93 ∷ [] = sym (append_assoc o (flat_map (λ x. 44 ∷ x) os) (codes "]")) in
    let cut : slice_split is_comma (without_last (o ++ (flat_map (λ x. 44 ∷ x) os ++ codes "]"))) ≡ o ∷ os =
    ap (λ l. slice_split is_comma (without_last l)) whole ∙ ap (slice_split is_comma) (last_off (o ++ flat_map (λ x. 44 ∷ x) os) 93) ∙ split_piece o (flat_map (λ x. 44 ∷ x) os) os clean.0 (split_rest os clean.1) in
    rw (cut, h.0) refl

pub own : IsNumeralModel (λ ds. list_all is_ascii_digit ds ≡ true) (digits_value 0)
own = numerals_by_fold (λ ds. list_all is_ascii_digit ds ≡ true) (search rules) digits_value (search rules)

-- bytes of one class are none of another that it lacks
pub none_of : (class other : ℕ → Bool) (bytes : List ℕ) → ((b : ℕ) → class b ≡ true → other b ≡ false) → list_all class bytes ≡ true → list_any other bytes ≡ false
none_of class other [] apart h = refl
none_of class other (b ∷ bytes) apart h =
    let h : (class b ≡ true) × (list_all class bytes ≡ true) = and_parts (class b) (list_all class bytes) h in
    rw (apart b h.0) (none_of class other bytes apart h.1)

digit_no_comma : (b : ℕ) → is_ascii_digit b ≡ true → is_comma b ≡ false
digit_no_comma b h = grind (arith, nat_tests)

no_zero_first : (bytes : List ℕ) → 48 < get_or bytes 0 0 → has_no_leading_zero bytes ≡ true
no_zero_first [] h = absurd (omega (arith, h))
no_zero_first (b ∷ bytes) h = grind (arith, nat_tests)

number_again : (n : ℕ) → is_limit n ≡ true → number_of (decimal n) ≡ Some n
unfolding decimal_of
number_again n h =
    let from : 0 < n = grind (arith, nat_tests) in
    let to : n < 2 ^ 64 = grind (arith, nat_tests) in
    let first = no_zero_first (decimal n) (first_decimal n from to) in
    rw (first, digits_decimal own n to, digits_value-decimal own n to, h) refl

limit_again : (limit : Limit) → is_limit limit.limit ≡ true → limit_of (decimal limit.limit ++ 44 ∷ (codes "action=" ++ (action limit.deny ++ codes ")"))) ≡ Some (Value limit)
limit_again limit h =
    let to : limit.limit < 2 ^ 64 = grind (arith, nat_tests) in
    let clean = none_of is_ascii_digit is_comma (decimal limit.limit) digit_no_comma (digits_decimal own limit.limit to) in
    let rest = codes "action=" ++ (action limit.deny ++ codes ")") in
    let deny : (d : Bool) → bytes_eq (codes "action=" ++ (action d ++ codes ")")) (codes "action=deny)") ≡ d = elim [ true ↦ refl | false ↦ refl ] in
    rw (before_at is_comma (decimal limit.limit) rest 44 clean refl, after_at is_comma (decimal limit.limit) rest 44 clean refl, number_again limit.limit h, deny limit.deny) refl

pub command_again : (x : Command) → IsPlain x → command_of (line_of x) ≡ Some x
unfolding command_of limit_text
command_again Create h = refl
command_again (Set name value) h = set_again name value h.0 h.1 h.2
command_again (Open k) h = kind_again k
command_again (Options []) h = absurd h
command_again (Options (o ∷ os)) h = options_again o os h
command_again (Value limit) h = limit_again limit h
command_again End h = refl
