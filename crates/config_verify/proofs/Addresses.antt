-- The parts of an address.
use Rattle.std.proofs.Common.{◌≡◌, ◌+◌, ◌&&◌, ℕ, Bool, true, false, List, [], ◌∷◌, Some, None, codes, drop, take, get_or, refl, ap, ◌∙◌}
use Rattle.std.specs.Char.{is_ascii_digit}
use Rattle.std.specs.List.{list_all, position, slice_split}
use Rattle.std.specs.Str.{bytes_eq}
use Rattle.std.proofs.lemmas.Bool.Decides.{Decides-eqb}
use Rattle.std.proofs.lemmas.List.Folds.{list_all_at}
use Rattle.std.proofs.lemmas.List.Quantifiers.{position-Some}
use Rattle.std.proofs.lemmas.Slice.Eq.{bytes_eq-Decides}
use Rattle.zn_base.specs.Path.{is_slash}
use Rattle.zn_base.proofs.Splits.{split_none, split_some}
use Rattle.zn_base.specs.Decimals.{decimal_of, has_no_leading_zero}
use Rattle.config_verify.specs.Values.{are_four_octets, is_address, is_dot, is_plain_address, is_up_to}

pub no_dot : (text : List ℕ) → position is_dot text ≡ None → is_plain_address text ≡ false
unfolding is_plain_address
no_dot text none = rw (split_none is_dot text none) refl

pub one_dot : (text : List ℕ) (a : ℕ) → position is_dot text ≡ Some a → position is_dot (drop (a + 1) text) ≡ None → is_plain_address text ≡ false
unfolding is_plain_address
one_dot text a first none = rw ((split_some is_dot text a first).1, split_none is_dot (drop (a + 1) text) none) refl

pub two_dots : (text : List ℕ) (a b : ℕ) → position is_dot text ≡ Some a → position is_dot (drop (a + 1) text) ≡ Some b
    → position is_dot (drop (b + 1) (drop (a + 1) text)) ≡ None → is_plain_address text ≡ false
unfolding is_plain_address
two_dots text a b first second none =
    rw ((split_some is_dot text a first).1, (split_some is_dot (drop (a + 1) text) b second).1, split_none is_dot (drop (b + 1) (drop (a + 1) text)) none) refl

five_parts : (a b c d e : List ℕ) (rest : List (List ℕ)) → are_four_octets (a ∷ b ∷ c ∷ d ∷ e ∷ rest) ≡ false
five_parts a b c d e rest = refl

-- a text has parts
some_parts : (p : ℕ → Bool) (text : List ℕ) → (part : List ℕ) × ((parts : List (List ℕ)) × (slice_split p text ≡ part ∷ parts))
some_parts p text =
    elim (position p text) as (λ o. position p text ≡ o → (part : List ℕ) × ((parts : List (List ℕ)) × (slice_split p text ≡ part ∷ parts))) [
      | Some i ↦ λ e. (take i text, (slice_split p (drop (i + 1) text), (split_some p text i e).1))
      | None ↦ λ e. (text, ([], split_none p text e))
    ] refl

pub four_dots : (text : List ℕ) (a b c d : ℕ) → position is_dot text ≡ Some a → position is_dot (drop (a + 1) text) ≡ Some b
    → position is_dot (drop (b + 1) (drop (a + 1) text)) ≡ Some c → position is_dot (drop (c + 1) (drop (b + 1) (drop (a + 1) text))) ≡ Some d → is_plain_address text ≡ false
unfolding is_plain_address
four_dots text a b c d first second third fourth =
    let two = drop (a + 1) text in
    let three = drop (b + 1) two in
    let four = drop (c + 1) three in
    let more = some_parts is_dot (drop (d + 1) four) in
    rw ((split_some is_dot text a first).1, (split_some is_dot two b second).1, (split_some is_dot three c third).1, (split_some is_dot four d fourth).1, more.1.1) refl

pub three_dots : (text : List ℕ) (a b c : ℕ) → position is_dot text ≡ Some a → position is_dot (drop (a + 1) text) ≡ Some b
    → position is_dot (drop (b + 1) (drop (a + 1) text)) ≡ Some c → position is_dot (drop (c + 1) (drop (b + 1) (drop (a + 1) text))) ≡ None
    → is_plain_address text ≡ (is_up_to 255 (take a text) && is_up_to 255 (take b (drop (a + 1) text)) && is_up_to 255 (take c (drop (b + 1) (drop (a + 1) text))) && is_up_to 255 (drop (c + 1) (drop (b + 1) (drop (a + 1) text))))
unfolding is_plain_address
three_dots text a b c first second third none =
    let two = drop (a + 1) text in
    let three = drop (b + 1) two in
    let four = drop (c + 1) three in
    rw ((split_some is_dot text a first).1, (split_some is_dot two b second).1, (split_some is_dot three c third).1, split_none is_dot four none) refl

pub no_slash : (text : List ℕ) → position is_slash text ≡ None → is_address text ≡ is_plain_address text
unfolding is_address
no_slash text none = rw (split_none is_slash text none) refl

-- a slash is no digit, so a number has none
slash_in_digits : (text : List ℕ) (i : ℕ) → position is_slash text ≡ Some i → list_all is_ascii_digit text ≡ false
slash_in_digits text i found =
    let at = position-Some is_slash text i 0 found in
    let is : get_or text i 0 ≡ 47 = (Decides-eqb (get_or text i 0) 47).0 at.1 in
    list_all_at is_ascii_digit text i 0 at.0 (ap is_ascii_digit is)

not_zero : (text : List ℕ) (i : ℕ) → position is_slash text ≡ Some i → bytes_eq text (codes "0") ≡ false
not_zero text i found =
    elim (bytes_eq text (codes "0")) as (λ b. bytes_eq text (codes "0") ≡ b → b ≡ false) [
      | true ↦ λ e. let zero = ap (position is_slash) ((bytes_eq-Decides text (codes "0")).0 e) in absurd (cc)
      | false ↦ λ e. refl
    ] refl

and_false : (a : Bool) → (a && false) ≡ false
and_false true = refl
and_false false = refl

slash_in_number : (most : ℕ) (text : List ℕ) (i : ℕ) → position is_slash text ≡ Some i → is_up_to most text ≡ false
unfolding is_up_to decimal_of
slash_in_number most text i found = rw (not_zero text i found, slash_in_digits text i found, and_false (has_no_leading_zero text)) refl

slash : (text : List ℕ) (place : ℕ) → position is_slash text ≡ Some place → is_address text ≡ (is_plain_address (take place text) && is_up_to 32 (drop (place + 1) text))
unfolding is_address
slash text place found =
    let rest = drop (place + 1) text in
    let cut = (split_some is_slash text place found).1 in
    elim (position is_slash rest) as (λ o. position is_slash rest ≡ o → is_address text ≡ (is_plain_address (take place text) && is_up_to 32 rest)) [
      | Some i ↦ λ e.
          let more = some_parts is_slash (drop (i + 1) rest) in
          rw (cut, (split_some is_slash rest i e).1, more.1.1, slash_in_number 32 rest i e, and_false (is_plain_address (take place text))) refl
      | None ↦ λ e. rw (cut, split_none is_slash rest e) refl
    ] refl

pub good_front : (text : List ℕ) (place : ℕ) → position is_slash text ≡ Some place → is_plain_address (take place text) ≡ true → is_address text ≡ is_up_to 32 (drop (place + 1) text)
good_front text place found good = slash text place found ∙ ap (λ a. a && is_up_to 32 (drop (place + 1) text)) good

pub bad_front : (text : List ℕ) (place : ℕ) → position is_slash text ≡ Some place → is_plain_address (take place text) ≡ false → is_address text ≡ false
bad_front text place found bad = slash text place found ∙ ap (λ a. a && is_up_to 32 (drop (place + 1) text)) bad
