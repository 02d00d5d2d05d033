-- What a line says is right, and the place of its fault lies in the line.
use Rattle.std.proofs.Common.{◌≡◌, ◌≤◌, ◌<◌, ◌+◌, ◌-◌, ◌∙◌, ℕ, Bool, true, false, not, ◌&&◌, List, [], ◌∷◌, length, Option, Some, None, Result, Ok, Err, IsTrue, codes, inl, inr, refl, sym, ap, subst, arith, length-append}
use Rattle.std.specs.Prelude.{bytes_eq, if◌then◌else◌, is_ok, nat_le, position, unwrap_or}
use Rattle.std.proofs.lemmas.Bool.{and_parts, leb-true}
use Rattle.std.proofs.lemmas.List.Quantifiers.{position-Some}
use Rattle.std.proofs.lemmas.Slice.Eq.{bytes_eq-Decides}
use Rattle.zn_base.specs.Answers.{AnswersUnless}
use Rattle.zn_base.specs.Decimals.{decimal_of, digits_value, is_decimal, is_spelled}
use Rattle.zn_base.specs.Names.{Name, is_name, name_of}
use Rattle.zn_base.specs.Text.{is_text_byte}
use Rattle.zn_base.specs.declared.name.NameFault.{NameFault}
use Rattle.zn_base.proofs.Read_back.{name_of_name}
use Rattle.process_calls.specs.Calls.{call_of, greatest_pid, pid_in}
use Rattle.process_calls.specs.Words.{IsWithin}
use Rattle.process_calls.specs.declared.call.Call.{Call}
use Rattle.process_calls.specs.declared.call.CallFault.{CallFault}
use Rattle.process_calls.specs.declared.call.CallFault.TheVariants.{BadWord as Bad_at, Memory as No_memory}
use Rattle.process_calls.proofs.Numbers.{pid_written}
use Rattle.process_calls.proofs.Places.{place_within}
use Rattle.process_calls.proofs.Spelled.{call_is_written}
use Rattle.zone_pools.specs.declared.grant.Grant.{Grant}
use Rattle.zone_cases.specs.declared.events.Declaration.{Declaration}
use Rattle.zone_cases.specs.declared.events.Declaration.TheVariants.{Device, Item}
use Rattle.zone_cases.specs.declared.events.Event.{Event}
use Rattle.datalink_table.specs.declared.claims.ClaimKind.TheVariants.{Address, Dataset, Link}
use Rattle.grant_text.specs.Text.{SplitsInto, grant_text}
use Rattle.trace_text.specs.Declarations.{is_declaration}
use Rattle.trace_text.specs.Given.{EventsAreRight, Given, GivenAreRight, GivenPlacesAreWithin, IsAt, IsRight, PlacesAreWithin, StatesItsSplit, behind, given_by, given_of, is_late, moved, stated}
use Rattle.trace_text.specs.Lines.{Said, after_word, begins_with, call_at, called, declaration_of, declared, event_of, first_word, in_line, is_no_event, item_at, pid_at, pid_by, process_by, process_of, restart_by, session_of, turn_by, turn_of, typed_by, types, types_unless, with_words}
use Rattle.trace_text.specs.declared.fault.LineFault.{LineFault}
use Rattle.trace_text.specs.declared.fault.LineFault.TheVariants.{BadTag, BadWord, GrantForm, Memory, SysAfterStart}
use Rattle.trace_text.proofs.Holds.{by_test, by_words}
use Rattle.trace_text.proofs.Printable.{none_bad}
use Rattle.trace_text.proofs.Stated.{not_stated, pick, split_is, stated_is}
use Rattle.trace_text.proofs.Words.{cut_length, first_word_short}

-- an event that a line can say, in time
abbrev pub IsTimely : (started : Bool) → Event → Type 0
IsTimely started event = IsRight event × (is_late started event ≡ false)

abbrev pub IsFair : (started : Bool) (end : ℕ) → Said → Type 0
IsFair started end (Ok None) = Unit {0}
IsFair started end (Ok (Some event)) = IsTimely started event
IsFair started end (Err fault) = IsAt end fault

-- sessions
session_number : (word : List ℕ) (n : ℕ) → decimal_of 64 word ≡ Some n → (1 ≤ n) × (n ≤ 64)
unfolding decimal_of
session_number word n h = at (is_decimal 64 word) refl h
  where
    v : ℕ
    v = digits_value 0 word

    at : (b : Bool) → is_decimal 64 word ≡ b → (if b then Some v else None) ≡ Some n → (1 ≤ n) × (n ≤ 64)
    at true e g =
        let counted = and_parts (nat_le 1 v) (nat_le v 64) (and_parts (is_spelled word) (nat_le 1 v && nat_le v 64) e).1 in
        let is : v ≡ n = cc in
        subst (λ k. (1 ≤ k) × (k ≤ 64)) is (leb-true 1 v counted.0, leb-true v 64 counted.1)
    at false e g = absurd (cc)

types_fair : (started : Bool) (end number place : ℕ) (text : List ℕ) → (1 ≤ number) × (number ≤ 64) → ((at : ℕ) → at < length text → place + at ≤ end) → IsFair started end (types number place text)
types_fair started end number place text few within = at_bad (position (λ b. not (is_text_byte b)) text) refl
  where
    at_bad : (bad : Option ℕ) → position (λ b. not (is_text_byte b)) text ≡ bad → IsFair started end (types_unless bad number place text)
    at_bad None e = (record { may = few; texts = none_bad text e }, refl)
    at_bad (Some at) e = within at (position-Some (λ b. not (is_text_byte b)) text at 0 e).0

session_fair : (started : Bool) (words : List ℕ) → IsFair started (2 + length words) (session_of words)
session_fair started words = at_number (decimal_of 64 (first_word words)) refl
  where
    place : ℕ
    place = length (first_word words) + 3

    at_after : (number : ℕ) → (1 ≤ number) × (number ≤ 64) → (after : Option (List ℕ)) → after_word words ≡ after → IsFair started (2 + length words) (types number place (unwrap_or after []))
    at_after number few None e = types_fair started (2 + length words) number place [] few (λ at inside. absurd (omega (arith, inside)))
    at_after number few (Some text) e =
        let size = cut_length words text e in
        types_fair started (2 + length words) number place text few (λ at inside. omega (arith, inside, size))

    at_number : (found : Option ℕ) → decimal_of 64 (first_word words) ≡ found → IsFair started (2 + length words) (typed_by found place (unwrap_or (after_word words) []))
    at_number None e = omega arith
    at_number (Some number) e = at_after number (session_number (first_word words) number e) (after_word words) refl

-- turns
name_is : (word name : List ℕ) → name_of word ≡ Ok name → IsTrue (is_name name)
name_is word name h =
    let right : is_ok (name_of word) ≡ true = ap is_ok h in
    let same : Ok word ≡ name_of word = sym (name_of_name word right).0 in
    let is : word ≡ name = cc in
    subst (λ n. is_ok (name_of n) ≡ true) is right

turn_fair : (started : Bool) (words : List ℕ) → IsFair started (2 + length words) (turn_of words)
turn_fair started words = at_name (name_of (first_word words)) refl
  where
    place : ℕ
    place = length (first_word words) + 3

    at_after : (name : Name) → IsTrue (is_name name) → (after : Option (List ℕ)) → after_word words ≡ after → IsFair started (2 + length words) (turn_by (Ok name) place after)
    at_after name is None e = (record { may = tt; texts = is }, refl)
    at_after name is (Some more) e = let size = cut_length words more e in omega (arith, size)

    at_name : (named : Result Name NameFault) → name_of (first_word words) ≡ named → IsFair started (2 + length words) (turn_by named place (after_word words))
    at_name (Err fault) e = omega arith
    at_name (Ok name) e = at_after name (name_is (first_word words) name e) (after_word words) refl

-- calls
call_fair : (started : Bool) (end : ℕ) (zone : Name) (pid place : ℕ) (text : List ℕ) → IsTrue (is_name zone) → pid ≤ greatest_pid → place + length text ≤ end → IsFair started end (call_at zone pid place text)
call_fair started end zone pid place text is few within = at_call (call_of text) refl
  where
    at_fault : (fault : CallFault) → IsWithin (length text) fault → IsAt end (in_line place fault)
    at_fault No_memory inside = tt
    at_fault (Bad_at at) inside = let at_most : at ≤ length text = inside in omega (arith, at_most, within)

    at_call : (read : Result Call CallFault) → call_of text ≡ read → IsFair started end (called zone pid place read)
    at_call (Ok call) e = (record { may = (few, (call_is_written text call e).right); texts = is }, refl)
    at_call (Err fault) e = at_fault fault (place_within text fault e)

pid_fair : (started : Bool) (end : ℕ) (zone : Name) (place : ℕ) (words : List ℕ) → IsTrue (is_name zone) → place + length words ≤ end → IsFair started end (pid_at zone place words)
pid_fair started end zone place words is within = at_pid (pid_in (first_word words)) refl
  where
    at_pid : (found : Option ℕ) → pid_in (first_word words) ≡ found → IsFair started end (pid_by found zone place (place + length (first_word words)) (after_word words))
    at_pid None e = omega (arith, within)
    at_pid (Some pid) e =
        by_words (IsFair started end) (place + length (first_word words)) (call_at zone pid (place + length (first_word words) + 1)) (after_word words)
        (omega (arith, within, first_word_short words))
        (λ rest after. let size = cut_length words rest after in call_fair started end zone pid (place + length (first_word words) + 1) rest is (pid_written pid (first_word words) e).0 (omega (arith, within, size)))

process_fair : (started : Bool) (words : List ℕ) → IsFair started (2 + length words) (process_of words)
process_fair started words = at_name (name_of (first_word words)) refl
  where
    at_name : (named : Result Name NameFault) → name_of (first_word words) ≡ named → IsFair started (2 + length words) (process_by named (2 + length (first_word words)) (after_word words))
    at_name (Err fault) e = omega arith
    at_name (Ok zone) e =
        by_words (IsFair started (2 + length words)) (2 + length (first_word words)) (pid_at zone (2 + length (first_word words) + 1)) (after_word words)
        (omega (arith, first_word_short words))
        (λ rest after. let size = cut_length words rest after in pid_fair started (2 + length words) zone (2 + length (first_word words) + 1) rest (name_is (first_word words) zone e) (omega (arith, size)))

-- declarations
declared_fair : (started : Bool) (end : ℕ) (what : Declaration) (place : ℕ) (more : Option (List ℕ)) → IsTrue (is_declaration what) → ((rest : List ℕ) → more ≡ Some rest → place ≤ end) → IsFair started end (declared started what place more)
declared_fair started end what place (Some rest) right within = within rest refl
declared_fair true end what place None right within = tt
declared_fair false end what place None right within = (record { may = right; texts = tt }, refl)

item_fair : (started : Bool) (end : ℕ) (what : List ℕ → Declaration) (place : ℕ) (words : List ℕ) → place + length words ≤ end → IsFair started end (item_at started what place words)
item_fair started end what place words within =
    by_test (IsFair started end) (is_declaration (what (first_word words))) _ _
    (λ right. declared_fair started end (what (first_word words)) (place + length (first_word words) + 1) (after_word words) right (λ rest after. let size = cut_length words rest after in omega (arith, size, within)))
    (λ wrong. omega (arith, within))

declaration_fair : (started : Bool) (words : List ℕ) → IsFair started (2 + length words) (declaration_of started words)
declaration_fair started words =
    by_test (IsFair started (2 + length words)) (bytes_eq (first_word words) (codes "link")) _ _ (λ _. items (Item Link))
    (λ _. by_test (IsFair started (2 + length words)) (bytes_eq (first_word words) (codes "address")) _ _ (λ _. items (Item Address))
    (λ _. by_test (IsFair started (2 + length words)) (bytes_eq (first_word words) (codes "dataset")) _ _ (λ _. items (Item Dataset))
    (λ _. by_test (IsFair started (2 + length words)) (bytes_eq (first_word words) (codes "device")) _ _ (λ _. items Device)
    (λ _. omega arith))))
  where
    end : ℕ
    end = 2 + length (first_word words)

    items : (what : List ℕ → Declaration) → IsFair started (2 + length words) (with_words end (item_at started what (end + 1)) (after_word words))
    items what =
        by_words (IsFair started (2 + length words)) end (item_at started what (end + 1)) (after_word words) (omega (arith, first_word_short words))
        (λ rest after. let size = cut_length words rest after in item_fair started (2 + length words) what (end + 1) rest (omega (arith, size)))

-- a line
tagged_fair : (started : Bool) (line tag : List ℕ) (said : List ℕ → Said) → length tag ≡ 1 → first_word line ≡ tag → ((words : List ℕ) → IsFair started (2 + length words) (said words)) → IsFair started (length line) (with_words 1 said (after_word line))
tagged_fair started line tag said one is fair =
    by_words (IsFair started (length line)) 1 said (after_word line) (let size = ap length is in omega (arith, first_word_short line, one, size))
    (λ rest after. let size = cut_length line rest after in let first = ap length is in let same : 2 + length rest ≡ length line = omega (arith, size, first, one) in subst (λ end. IsFair started end (said rest)) same (fair rest))

event_fair : (started : Bool) (line : List ℕ) → IsFair started (length line) (event_of started line)
event_fair started line =
    by_test (IsFair started (length line)) (is_no_event line) _ _ (λ _. tt)
    (λ _. by_test (IsFair started (length line)) (begins_with 64 line) _ _ (λ _. tt)
    (λ _. by_test (IsFair started (length line)) (bytes_eq (first_word line) (codes "S")) _ _ (λ e. tagged_fair started line (codes "S") session_of refl (tag_is (codes "S") e) (session_fair started))
    (λ _. by_test (IsFair started (length line)) (bytes_eq (first_word line) (codes "D")) _ _ (λ e. tagged_fair started line (codes "D") turn_of refl (tag_is (codes "D") e) (turn_fair started))
    (λ _. by_test (IsFair started (length line)) (bytes_eq (first_word line) (codes "P")) _ _ (λ e. tagged_fair started line (codes "P") process_of refl (tag_is (codes "P") e) (process_fair started))
    (λ _. by_test (IsFair started (length line)) (bytes_eq (first_word line) (codes "Y")) _ _ (λ e. tagged_fair started line (codes "Y") (declaration_of started) refl (tag_is (codes "Y") e) (declaration_fair started))
    (λ _. by_test (IsFair started (length line)) (bytes_eq (first_word line) (codes "R")) _ _ (λ e. restarts (after_word line) refl (tag_is (codes "R") e))
    (λ _. tt)))))))
  where
    tag_is : (tag : List ℕ) → bytes_eq (first_word line) tag ≡ true → first_word line ≡ tag
    tag_is tag e = (bytes_eq-Decides (first_word line) tag).0 e

    restarts : (after : Option (List ℕ)) → after_word line ≡ after → first_word line ≡ codes "R" → IsFair started (length line) (restart_by after)
    restarts None e is = (record { may = tt; texts = tt }, refl)
    restarts (Some more) e is = let size = cut_length line more e in let first : length (first_word line) ≡ 1 = ap length is in omega (arith, size, first)

pub events_right : EventsAreRight
events_right started line event h = subst (IsFair started (length line)) h (event_fair started line)

pub places_within : PlacesAreWithin
places_within started line fault h = subst (IsFair started (length line)) h (event_fair started line)

-- a line with its grant
grant_said : Given → Option Grant
grant_said (Ok (Some both)) = Some both.0
grant_said (Ok None) = None
grant_said (Err fault) = None

event_said : Given → Option Event
event_said (Ok (Some both)) = Some both.1
event_said (Ok None) = None
event_said (Err fault) = None

same_some : {A : Type 0} (a b : A) → Some a ≡ Some b → a ≡ b
same_some a b e = cc

abbrev Says : (started : Bool) (line : List ℕ) → Grant → Event → Type 0
Says started line grant event = (rest : List ℕ) × SplitsInto line grant rest × (event_of started rest ≡ Ok (Some event))

behind_said : (started : Bool) (line rest : List ℕ) (g grant : Grant) (event : Event) (place : ℕ) (said : Said) → SplitsInto line g rest → event_of started rest ≡ said → behind g place said ≡ Ok (Some (grant, event)) → Says started line grant event
unfolding grant_said event_said
behind_said started line rest g grant event place (Ok None) split e h = absurd (cc)
behind_said started line rest g grant event place (Err fault) split e h = absurd (cc)
behind_said started line rest g grant event place (Ok (Some said)) split e h =
    let is : g ≡ grant = same_some g grant (ap grant_said h) in
    let same : said ≡ event = same_some said event (ap event_said h) in
    (rest, subst (λ other. SplitsInto line other rest) is split, e ∙ ap (λ event. Ok (Some event)) same)

stated_said : (started : Bool) (line : List ℕ) (grant : Grant) (event : Event) (found : Option (Grant × List ℕ)) → stated line ≡ found → given_by started found ≡ Ok (Some (grant, event)) → Says started line grant event
stated_said started line grant event None e h = absurd (cc)
stated_said started line grant event (Some split) e h = behind_said started line split.1 split.0 grant event (length (grant_text split.0) + 1) (event_of started split.1) (split_is line split.1 split.0 e) refl h

pub states_split : StatesItsSplit
states_split started line grant event h = elim (pick (is_no_event line) (Ok None) (given_by started (stated line)) (Ok (Some (grant, event))) h) [
  | inl none ↦ absurd (let e = none.1 in cc)
  | inr some ↦ stated_said started line grant event (stated line) refl some.1
]

pub given_right : GivenAreRight
given_right started line grant event h =
    let says = states_split started line grant event h in
    let right = events_right started says.0 event says.2 in
    (says.1.number, right.0, right.1)

-- the place of its fault
abbrev IsGivenAt : (end : ℕ) → Given → Type 0
IsGivenAt end (Ok said) = Unit {0}
IsGivenAt end (Err fault) = IsAt end fault

moved_at : (end place last : ℕ) (fault : LineFault) → place + end ≤ last → IsAt end fault → IsAt last (moved place fault)
moved_at end place last (BadWord at) within is = let at_most : at ≤ end = is in omega (arith, at_most, within)
moved_at end place last Memory within is = tt
moved_at end place last GrantForm within is = tt
moved_at end place last BadTag within is = tt
moved_at end place last SysAfterStart within is = tt

behind_at : (started : Bool) (end place last : ℕ) (grant : Grant) (said : Said) → place + end ≤ last → IsFair started end said → IsGivenAt last (behind grant place said)
behind_at started end place last grant (Ok None) within fair = tt
behind_at started end place last grant (Ok (Some event)) within fair = tt
behind_at started end place last grant (Err fault) within fair = moved_at end place last fault within fair

-- a line is as long as its grant, the space and the rest
pub split_length : (line rest : List ℕ) (grant : Grant) → SplitsInto line grant rest → length line ≡ length (grant_text grant) + 1 + length rest
split_length line rest grant split = ap length split.text ∙ (length-append (grant_text grant) (32 ∷ rest) ∙ (omega arith))

stated_at : (started : Bool) (line : List ℕ) (found : Option (Grant × List ℕ)) → stated line ≡ found → IsGivenAt (length line) (given_by started found)
stated_at started line None e = tt
stated_at started line (Some split) e =
    let size = split_length line split.1 split.0 (split_is line split.1 split.0 e) in
    behind_at started (length split.1) (length (grant_text split.0) + 1) (length line) split.0 (event_of started split.1) (omega (arith, size)) (event_fair started split.1)

if_at : (end : ℕ) (b : Bool) (r s : Given) → IsGivenAt end r → IsGivenAt end s → IsGivenAt end (if b then r else s)
if_at end true r s f g = f
if_at end false r s f g = g

given_at : (started : Bool) (line : List ℕ) → IsGivenAt (length line) (given_of started line)
given_at started line = if_at (length line) (is_no_event line) (Ok None) (given_by started (stated line)) tt (stated_at started line (stated line) refl)

pub given_places : GivenPlacesAreWithin
given_places started line fault h = subst (IsGivenAt (length line)) h (given_at started line)

-- what is answered of a line that begins with a grant, by what is answered of its rest
pub given_told : (started : Bool) (line rest : List ℕ) (grant : Grant) (place : ℕ) (read : Said) → is_no_event line ≡ false → SplitsInto line grant rest → place ≡ length line - length rest
    → AnswersUnless Memory (event_of started rest) read → AnswersUnless Memory (given_of started line) (behind grant place read)
given_told started line rest grant place read some split at = by_read read
  where
    place_is : length (grant_text grant) + 1 ≡ place
    place_is = omega (arith, at, split_length line rest grant split)

    is : given_of started line ≡ behind grant place (event_of started rest)
    is = rw (some, stated_is line rest grant split, place_is) refl

    by_read : (read : Said) → AnswersUnless Memory (event_of started rest) read → AnswersUnless Memory (given_of started line) (behind grant place read)
    by_read (Ok (Some event)) told = is ∙ ap (behind grant place) told
    by_read (Ok None) told = inr (is ∙ ap (behind grant place) told)
    by_read (Err fault) told = elim told [
      | inl none ↦ inl (ap (moved place) none)
      | inr said ↦ inr (is ∙ ap (behind grant place) said)
    ]

-- a line without a grant
pub ungiven : (started : Bool) (line : List ℕ) → is_no_event line ≡ false → ((grant : Grant) (rest : List ℕ) → SplitsInto line grant rest → ⊥) → given_of started line ≡ Err GrantForm
ungiven started line some none = rw (some, not_stated line none) refl

-- the place of a fault that was answered
pub told_at : (started : Bool) (line : List ℕ) (fault : LineFault) (most : ℕ) → length line ≤ most → AnswersUnless Memory (event_of started line) (Err fault) → IsAt most fault
told_at started line fault most few told = elim told [
  | inl none ↦ subst (IsAt most) (sym none) tt
  | inr said ↦ further (length line) most fault few (places_within started line fault said)
]
  where
    further : (end most : ℕ) (fault : LineFault) → end ≤ most → IsAt end fault → IsAt most fault
    further end most (BadWord place) few is = let at_most : place ≤ end = is in omega (arith, at_most, few)
    further end most Memory few is = tt
    further end most GrantForm few is = tt
    further end most BadTag few is = tt
    further end most SysAfterStart few is = tt
