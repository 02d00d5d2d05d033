-- What a run of lines comes to as a history of the zone machine.
use Rattle.std.proofs.Common.{◌≡◌, ◌+◌, ◌++◌, ◌||◌, ℕ, Bool, true, false, cond, List, [], ◌∷◌, map, Some, None, Ok, Err, refl}
use Rattle.std.proofs.lemmas.Bool.{and_from, true≢false}
use Rattle.trace_text.specs.Lines.{Said, event_of}
use Rattle.zn_base.specs.Lines.{lines_of}
use Rattle.zone_machine.specs.Machine.{opening}
use Rattle.zone_machine.specs.Machine.Histories.{is_history}
use Rattle.zone_cases.specs.State.{State}
use Rattle.zone_cases.specs.declared.events.Entry.{Entry}
use Rattle.zone_cases.specs.declared.events.Event.{Event}
use Rattle.zones_run.specs.Output.{is_past_limit}
use Rattle.zones_run.specs.Permitted.{EntriesAreTheMachines, LinesAreTheEvents}
use Rattle.zones_run.specs.Scripting.{all_unstated, numbered, opened, put_in, state_past, turns_after, with_events}
use Rattle.zones_run.specs.Scripts.{At_misfit, Ending, Past_limit, Says, Script, counts, due_said, ends, entries_from, entry_for, fits_due, permits, said_by, script_from, script_of, state_for, states, unstated, with_due, with_line}
use Rattle.zones_run.specs.declared.due.Due.{Due}
use Rattle.zones_run.specs.declared.words.Mode.{Mode}
use Rattle.zones_run.specs.declared.words.Mode.TheVariants.{Purged, Replies, Stated, WithTurns}
use Rattle.zones_run.proofs.Histories.{Suits, due-told, permits-due, suits_said}
use Rattle.zones_run.proofs.Putting.{NoneStated, nothing_put}

-- no line states a grant
none_due : (said : Said) (n : ℕ) (more : Script) → NoneStated more.events → NoneStated (with_line n (due_said said) more).events
none_due (Ok (Some e)) n more none = (refl, none)
none_due (Ok None) n more none = none
none_due (Err fault) n more none = tt

none_said : (mode : Mode) (started : Bool) (line : List ℕ) (n : ℕ) (more : Script) → states mode ≡ false → NoneStated more.events → NoneStated (with_line n (said_by mode started line) more).events
none_said Replies started line n more not none = none_due (event_of started line) n more none
none_said (WithTurns telling) started line n more not none = none_due (event_of started line) n more none
none_said (Purged zone) started line n more not none = none_due (event_of started line) n more none
none_said Stated started line n more not none = absurd (true≢false not)

none_stated : (mode : Mode) (started : Bool) (n : ℕ) (lines : List (List ℕ)) → states mode ≡ false → NoneStated (script_from mode started n lines).events
none_stated mode started n [] not = tt
none_stated mode started n (line ∷ lines) not =
    let said = said_by mode started line in
    at_limit (is_past_limit n line) (with_line n said (script_from mode (started || counts said) (n + 1) lines))
    (none_said mode started line n (script_from mode (started || counts said) (n + 1) lines) not (none_stated mode (started || counts said) (n + 1) lines not))
  where
    at_limit : (b : Bool) (script : Script) → NoneStated script.events → NoneStated (cond b (ends (Past_limit n)) script).events
    at_limit true script none = tt
    at_limit false script none = none

pub lines_are_events : LinesAreTheEvents
lines_are_events mode S bytes puts not =
    let script = script_of mode bytes in
    nothing_put mode S script.events script.ending puts (none_stated mode false 1 (lines_of bytes) not)

-- each of some events states a grant where its run's lines do, and else none
abbrev pub AllSuit : Mode → List (ℕ × Due) → Type 0
AllSuit mode [] = Unit {0}
AllSuit mode (e ∷ events) = Suits mode e.1 × AllSuit mode events

suit_said : (mode : Mode) (started : Bool) (line : List ℕ) (n : ℕ) (said : Says) (more : Script) → said_by mode started line ≡ said → AllSuit mode more.events → AllSuit mode (with_line n said more).events
suit_said mode started line n (Ok (Some d)) more is suit = (suits_said mode started line d is, suit)
suit_said mode started line n (Ok None) more is suit = suit
suit_said mode started line n (Err fault) more is suit = tt

pub all_suit : (mode : Mode) (started : Bool) (n : ℕ) (lines : List (List ℕ)) → AllSuit mode (script_from mode started n lines).events
all_suit mode started n [] = tt
all_suit mode started n (line ∷ lines) =
    let said = said_by mode started line in
    at_limit (is_past_limit n line) (with_line n said (script_from mode (started || counts said) (n + 1) lines))
    (suit_said mode started line n said (script_from mode (started || counts said) (n + 1) lines) refl (all_suit mode (started || counts said) (n + 1) lines))
  where
    at_limit : (b : Bool) (script : Script) → AllSuit mode script.events → AllSuit mode (cond b (ends (Past_limit n)) script).events
    at_limit true script suit = tt
    at_limit false script suit = suit

-- the events of a script make a history from a state on
abbrev Makes : Mode → State → List (ℕ × Due) → Type 0
Makes mode S events = is_history (permits mode) S (entries_from S (map (λ (x : ℕ × Due). x.1) events)) ≡ true

one_more : (mode : Mode) (S : State) (d : Due) (rest : List Entry) → Suits mode d → fits_due S d ≡ true → is_history (permits mode) (state_for S d) rest ≡ true → is_history (permits mode) S (entry_for S d ∷ rest) ≡ true
one_more mode S d rest suits fits more = and_from _ _ (and_from _ _ (due-told S d) (permits-due mode S d suits fits)) more

-- turns that are put in, under what the pools give, and then what follows. Only where no grants are stated are any put in
turns_make : (mode : Mode) (S : State) (n : ℕ) (turns : List Event) (events : List (ℕ × Due)) → ((e : Event) → Suits mode (unstated e)) → Makes mode (state_past S turns) events → Makes mode S (all_unstated (numbered n turns) ++ events)
turns_make mode S n [] events suit more = more
turns_make mode S n (e ∷ turns) events suit more =
    one_more mode S (unstated e) (entries_from (state_for S (unstated e)) (map (λ (x : ℕ × Due). x.1) (all_unstated (numbered n turns) ++ events))) (suit e) refl (turns_make mode (state_for S (unstated e)) n turns events suit more)

put_makes : (mode : Mode) (S : State) (events : List (ℕ × Due)) (ending : Ending) → AllSuit mode events → Makes mode S (put_in mode S events ending).events
put_makes mode S [] ending suit = refl
put_makes mode S (e ∷ events) ending suit =
    let T = state_for S e.1 in
    let more = turns_after mode (opened (entry_for S e.1)) T in
    by_fit (fits_due S e.1) refl (with_events (numbered e.0 more) (put_in mode (state_past T more) events ending))
    (turns_of mode S e.1 e.0 (put_in mode (state_past T more) events ending).events (put_makes mode (state_past T more) events ending suit.1))
  where
    turns_of : (mode : Mode) (S : State) (d : Due) (n : ℕ) (events : List (ℕ × Due)) → Makes mode (state_past (state_for S d) (turns_after mode (opened (entry_for S d)) (state_for S d))) events
        → Makes mode (state_for S d) (all_unstated (numbered n (turns_after mode (opened (entry_for S d)) (state_for S d))) ++ events)
    turns_of Replies S d n events more = more
    turns_of (Purged zone) S d n events more = more
    turns_of Stated S d n events more = more
    turns_of (WithTurns telling) S d n events more = turns_make (WithTurns telling) (state_for S d) n (turns_after (WithTurns telling) (opened (entry_for S d)) (state_for S d)) events (λ e. refl) more

    by_fit : (b : Bool) → fits_due S e.1 ≡ b → (script : Script) → Makes mode (state_for S e.1) script.events → Makes mode S (cond b (with_due e script) (ends (At_misfit e.0))).events
    by_fit true is script more = one_more mode S e.1 (entries_from (state_for S e.1) (map (λ (x : ℕ × Due). x.1) script.events)) suit.0 is more
    by_fit false is script more = refl

pub entries_permitted : EntriesAreTheMachines
entries_permitted mode brands R bytes =
    let script = script_of mode bytes in
    put_makes mode (opening brands R) script.events script.ending (all_suit mode false 1 (lines_of bytes))
