-- Where sessions are live a line says what it says in a trace, if a session types it or it declares something.
use Rattle.std.proofs.Common.{◌≡◌, ◌+◌, ◌∙◌, ℕ, Bool, true, false, not, List, length, Option, Some, None, Result, Ok, Err, IsTrue, codes, inl, inr, refl, sym, subst, true≢false}
use Rattle.std.specs.Prelude.{bytes_eq, if◌then◌else◌, position}
use Rattle.std.proofs.lemmas.Slice.Eq.{bytes_eq-Decides}
use Rattle.zn_base.specs.Decimals.{decimal_of}
use Rattle.zn_base.specs.Names.{Name, name_of}
use Rattle.zn_base.specs.Text.{is_text_byte}
use Rattle.zn_base.specs.declared.name.NameFault.{NameFault}
use Rattle.process_calls.specs.Calls.{call_of, pid_in}
use Rattle.process_calls.specs.declared.call.Call.{Call}
use Rattle.process_calls.specs.declared.call.CallFault.{CallFault}
use Rattle.datalink_table.specs.declared.claims.ClaimKind.TheVariants.{Address, Dataset, Link}
use Rattle.zone_cases.specs.declared.events.Declaration.{Declaration}
use Rattle.zone_cases.specs.declared.events.Declaration.TheVariants.{Device, Item}
use Rattle.zone_cases.specs.declared.events.Event.{Event}
use Rattle.trace_text.specs.Declarations.{is_declaration}
use Rattle.trace_text.specs.Lines.{Said, after_word, begins_with, call_at, called, declaration_of, declared, event_of, first_word, is_no_event, item_at, line_text, pid_at, pid_by, process_by, process_of, restart_by, session_of, turn_by, turn_of, typed_by, types_unless, with_words}
use Rattle.trace_text.specs.Live.{LiveAreRight, LivePlacesAreWithin, LiveReadBack, LiveSaysJust, is_live, is_traced}
use Rattle.trace_text.specs.declared.fault.LineFault.TheVariants.{BadTag}
use Rattle.trace_text.proofs.Fair.{IsFair, events_right, places_within}
use Rattle.trace_text.proofs.Holds.{by_test, by_words}
use Rattle.trace_text.proofs.Printed.{event_again}
use Rattle.trace_text.proofs.Stated.{pick}

-- what is said is a session's or a declaration, or is none of these
abbrev Tells : (live : Bool) → Said → Type 0
Tells live (Ok None) = Unit {0}
Tells live (Ok (Some event)) = is_live event ≡ live
Tells live (Err fault) = Unit {0}

text_tells : (bad : Option ℕ) (number place : ℕ) (text : List ℕ) → Tells true (types_unless bad number place text)
text_tells None number place text = refl
text_tells (Some bad) number place text = tt

session_tells : (found : Option ℕ) (place : ℕ) (text : List ℕ) → Tells true (typed_by found place text)
session_tells None place text = tt
session_tells (Some number) place text = text_tells (position (λ b. not (is_text_byte b)) text) number place text

turn_tells : (named : Result Name NameFault) (place : ℕ) (more : Option (List ℕ)) → Tells false (turn_by named place more)
turn_tells (Err fault) place more = tt
turn_tells (Ok zone) place None = refl
turn_tells (Ok zone) place (Some more) = tt

call_tells : (zone : Name) (pid place : ℕ) (read : Result Call CallFault) → Tells false (called zone pid place read)
call_tells zone pid place (Ok call) = refl
call_tells zone pid place (Err fault) = tt

pid_tells : (found : Option ℕ) (zone : Name) (place end : ℕ) (more : Option (List ℕ)) → Tells false (pid_by found zone place end more)
pid_tells None zone place end more = tt
pid_tells (Some pid) zone place end more = by_words (Tells false) end (call_at zone pid (end + 1)) more tt (λ text _. call_tells zone pid (end + 1) (call_of text))

process_tells : (named : Result Name NameFault) (end : ℕ) (more : Option (List ℕ)) → Tells false (process_by named end more)
process_tells (Err fault) end more = tt
process_tells (Ok zone) end more =
    by_words (Tells false) end (pid_at zone (end + 1)) more tt
    (λ words _. pid_tells (pid_in (first_word words)) zone (end + 1) (end + 1 + length (first_word words)) (after_word words))

declared_tells : (started : Bool) (what : Declaration) (place : ℕ) (more : Option (List ℕ)) → Tells true (declared started what place more)
declared_tells started what place (Some more) = tt
declared_tells true what place None = tt
declared_tells false what place None = refl

item_tells : (started : Bool) (what : List ℕ → Declaration) (place : ℕ) (words : List ℕ) → Tells true (item_at started what place words)
item_tells started what place words =
    by_test (Tells true) (is_declaration (what (first_word words))) _ _
    (λ _. declared_tells started (what (first_word words)) (place + length (first_word words) + 1) (after_word words))
    (λ _. tt)

declaration_tells : (started : Bool) (words : List ℕ) → Tells true (declaration_of started words)
declaration_tells started words =
    by_test (Tells true) (bytes_eq (first_word words) (codes "link")) _ _ (λ _. items (Item Link))
    (λ _. by_test (Tells true) (bytes_eq (first_word words) (codes "address")) _ _ (λ _. items (Item Address))
    (λ _. by_test (Tells true) (bytes_eq (first_word words) (codes "dataset")) _ _ (λ _. items (Item Dataset))
    (λ _. by_test (Tells true) (bytes_eq (first_word words) (codes "device")) _ _ (λ _. items Device)
    (λ _. tt))))
  where
    end : ℕ
    end = 2 + length (first_word words)

    items : (what : List ℕ → Declaration) → Tells true (with_words end (item_at started what (end + 1)) (after_word words))
    items what = by_words (Tells true) end (item_at started what (end + 1)) (after_word words) tt (λ rest _. item_tells started what (end + 1) rest)

restart_tells : (more : Option (List ℕ)) → Tells false (restart_by more)
restart_tells None = refl
restart_tells (Some more) = tt

-- what a line says in a trace tells by its tag
abbrev TellsByTag : List ℕ → Said → Type 0
TellsByTag tag said = Tells (not (is_traced tag)) said

event_tells : (started : Bool) (line : List ℕ) → TellsByTag (first_word line) (event_of started line)
event_tells started line =
    by_test (TellsByTag (first_word line)) (is_no_event line) _ _ (λ _. tt)
    (λ _. by_test (TellsByTag (first_word line)) (begins_with 64 line) _ _ (λ _. tt)
    (λ _. by_test (TellsByTag (first_word line)) (bytes_eq (first_word line) (codes "S")) _ _
    (λ e. under (codes "S") e (with_words 1 session_of words)
    (by_words (Tells true) 1 session_of words tt (λ rest _. session_tells (decimal_of 64 (first_word rest)) _ _)))
    (λ _. by_test (TellsByTag (first_word line)) (bytes_eq (first_word line) (codes "D")) _ _
    (λ e. under (codes "D") e (with_words 1 turn_of words)
    (by_words (Tells false) 1 turn_of words tt (λ rest _. turn_tells (name_of (first_word rest)) _ (after_word rest))))
    (λ _. by_test (TellsByTag (first_word line)) (bytes_eq (first_word line) (codes "P")) _ _
    (λ e. under (codes "P") e (with_words 1 process_of words)
    (by_words (Tells false) 1 process_of words tt (λ rest _. process_tells (name_of (first_word rest)) _ (after_word rest))))
    (λ _. by_test (TellsByTag (first_word line)) (bytes_eq (first_word line) (codes "Y")) _ _
    (λ e. under (codes "Y") e (with_words 1 (declaration_of started) words)
    (by_words (Tells true) 1 (declaration_of started) words tt (λ rest _. declaration_tells started rest)))
    (λ _. by_test (TellsByTag (first_word line)) (bytes_eq (first_word line) (codes "R")) _ _
    (λ e. under (codes "R") e (restart_by words) (restart_tells words))
    (λ _. tt)))))))
  where
    words : Option (List ℕ)
    words = after_word line

    under : (tag : List ℕ) → bytes_eq (first_word line) tag ≡ true → (said : Said) → TellsByTag tag said → TellsByTag (first_word line) said
    under tag e said tells = subst (λ tag. TellsByTag tag said) (sym ((bytes_eq-Decides (first_word line) tag).0 e)) tells

-- what a line says, by whether its tag is one that a trace alone has
just_by : (traced : Bool) (said : Said) (event : Event) → Tells (not traced) said
    → ((if traced then Err BadTag else said) ≡ Ok (Some event) → (said ≡ Ok (Some event)) × IsTrue (is_live event))
    × (said ≡ Ok (Some event) → IsTrue (is_live event) → (if traced then Err BadTag else said) ≡ Ok (Some event))
just_by true said event tells = (λ h. absurd (cc), λ h live. absurd (true≢false (sym live ∙ subst (Tells false) h tells)))
just_by false said event tells = (λ h. (h, subst (Tells true) h tells), λ h live. h)

pub says_just : LiveSaysJust
says_just started line event = just_by (is_traced (first_word line)) (event_of started line) event (event_tells started line)

pub live_again : LiveReadBack
live_again started event right live time = (says_just started (line_text event) event).1 (event_again started event right time) live

pub live_right : LiveAreRight
live_right started line event h =
    let said = (says_just started line event).0 h in
    let right = events_right started line event said.0 in
    (said.1, right.0, right.1)

pub live_places : LivePlacesAreWithin
live_places started line fault h = elim (pick (is_traced (first_word line)) (Err BadTag) (event_of started line) (Err fault) h) [
  | inl traced ↦ subst (IsFair started (length line)) traced.1 tt
  | inr other ↦ places_within started line fault other.1
]
