-- The rest of a text, from a word on, is the words that it has, with a space between two.
use Rattle.std.proofs.Common.{◌≡◌, ◌∙◌, ◌+◌, ◌-◌, ◌<◌, ◌≤◌, ℕ, Bool, true, false, not, nat_lt, List, [], ◌∷◌, length, map, take, drop, Option, Some, None, Ok, Err, refl, sym, ap, subst, arith, length-drop}
use Rattle.std.specs.Prelude.{is_ok, position, if◌then◌else◌}
use Rattle.std.specs.List.{join_with_byte, slice_split}
use Rattle.std.proofs.lemmas.List.{take_all}
use Rattle.std.proofs.lemmas.List.Splits.{join_with_byte-slice_split}
use Rattle.process_calls.specs.declared.call.CallFault.TheVariants.{BadWord}
use Rattle.zn_base.proofs.Splits.{split_some}
use Rattle.zn_base.specs.Text.{is_text, is_text_byte, text_of, text_unless}
use Rattle.zn_base.specs.declared.text.TextFault.TheVariants.{TextLong}
use Rattle.process_calls.specs.declared.call.Call.{Call}
use Rattle.process_calls.specs.declared.call.Call.TheVariants.{Cons}
use Rattle.process_calls.specs.declared.call.CallFault.{CallFault}
use Rattle.process_calls.specs.Calls.{Said, cons_by, cons_read}
use Rattle.process_calls.specs.Words.{IsWithin, is_space, placed, words_behind, words_from}
use Rattle.process_calls.proofs.Splitting.{more_behind, nothing_behind}

pub bytes_of_placed : (place : ℕ) (parts : List (List ℕ)) → map (λ w. w.bytes) (placed place parts) ≡ parts
bytes_of_placed place [] = refl
bytes_of_placed place (word ∷ more) = ap (λ ws. word ∷ ws) (bytes_of_placed (place + length word + 1) more)

-- a text has a word, which may be empty
has_word : (P : Type 0) (text : List ℕ) → slice_split is_space text ≡ [] → P
has_word P [] h = absurd (cc)
has_word P (b ∷ bytes) h =
    let whole : [] ≡ b ∷ bytes = ap (join_with_byte 32) (sym h) ∙ join_with_byte-slice_split 32 (b ∷ bytes) in
    absurd (cc)

abbrev pub cons_from : ℕ → List ℕ → Said
cons_from place text = cons_read place (text_of text)

pub cons_of : (end place : ℕ) (text : List ℕ) → cons_by end (placed place (slice_split is_space text)) ≡ cons_from place text
cons_of end place text = at_parts (slice_split is_space text) refl
  where
    at_parts : (parts : List (List ℕ)) → slice_split is_space text ≡ parts → cons_by end (placed place parts) ≡ cons_from place text
    at_parts [] e = has_word _ text e
    at_parts (word ∷ more) e =
        let whole : join_with_byte 32 (word ∷ more) ≡ text = ap (join_with_byte 32) (sym e) ∙ join_with_byte-slice_split 32 text in
        rw (bytes_of_placed (place + length word + 1) more, whole) refl

-- what is said behind a word is the rest of the text behind it, as `&text[behind..]` is
pub cons_missing : (text : List ℕ) (end : ℕ) → end ≡ length text → cons_by (length text) (words_behind text end) ≡ Err (BadWord end)
cons_missing text end last = rw (nothing_behind text end last, last) refl

rest_behind : List ℕ → ℕ → List ℕ
rest_behind text end = take (length text - (end + 1)) (drop (end + 1) text)

pub cons_behind : (text : List ℕ) (end : ℕ) → end ≤ length text → (end ≡ length text → ⊥)
    → cons_by (length text) (words_behind text end) ≡ cons_read (end + 1) (text_of (take (length text - (end + 1)) (drop (end + 1) text)))
unfolding words_from rest_behind
cons_behind text end within other =
    let inside : end < length text = omega (arith, within, other) in
    let whole : rest_behind text end ≡ drop (end + 1) text = take_all (length text - (end + 1)) (drop (end + 1) text) (omega (arith, length-drop (end + 1) text)) in
    ap (cons_by (length text)) (more_behind text end inside) ∙ cons_of (length text) (end + 1) (drop (end + 1) text) ∙ ap (cons_from (end + 1)) (sym whole)

-- a text is read as itself, and else it has no call
pub text_again : (text : List ℕ) → is_text text ≡ true → text_of text ≡ Ok text
text_again text right = at_bad (position (λ b. not (is_text_byte b)) text) right
  where
    at_long : (b : Bool) → is_ok (if b then Err TextLong else Ok text) ≡ true → (if b then Err TextLong else Ok text) ≡ Ok text
    at_long true h = absurd (cc)
    at_long false h = refl

    at_bad : (bad : Option ℕ) → is_ok (text_unless bad text) ≡ true → text_unless bad text ≡ Ok text
    at_bad None h = at_long (nat_lt 4200 (length text)) h
    at_bad (Some place) h = absurd (cc)

pub text_read : (place : ℕ) (text : List ℕ) (call : Call) → cons_from place text ≡ Ok call → (is_text text ≡ true) × (Cons text ≡ call)
text_read place text call h = at_bad (position (λ b. not (is_text_byte b)) text) h
  where
    at_long : (b : Bool) → cons_read place (if b then Err TextLong else Ok text) ≡ Ok call → (is_ok (if b then Err TextLong else Ok text) ≡ true) × (Cons text ≡ call)
    at_long true h = absurd (cc)
    at_long false h = (refl, cc)

    at_bad : (bad : Option ℕ) → cons_read place (text_unless bad text) ≡ Ok call → (is_ok (text_unless bad text) ≡ true) × (Cons text ≡ call)
    at_bad None h = at_long (nat_lt 4200 (length text)) h
    at_bad (Some at) h = absurd (cc)

-- a wrong byte lies in the text
pub text_within : (place end : ℕ) (text : List ℕ) → place + length text ≤ end → (fault : CallFault) → cons_from place text ≡ Err fault → IsWithin end fault
text_within place end text fits fault h = at_bad (position (λ b. not (is_text_byte b)) text) refl h
  where
    here : BadWord place ≡ fault → IsWithin end fault
    here is = subst (IsWithin end) is (omega (arith, fits))

    at_long : (b : Bool) → cons_read place (if b then Err TextLong else Ok text) ≡ Err fault → IsWithin end fault
    at_long true h = here (cc)
    at_long false h = absurd (cc)

    at_bad : (bad : Option ℕ) → position (λ b. not (is_text_byte b)) text ≡ bad → cons_read place (text_unless bad text) ≡ Err fault → IsWithin end fault
    at_bad None e h = at_long (nat_lt 4200 (length text)) h
    at_bad (Some at) e h =
        let inside = (split_some (λ b. not (is_text_byte b)) text at e).0 in
        let is : BadWord (place + at) ≡ fault = cc in
        subst (IsWithin end) is (omega (arith, fits, inside))
