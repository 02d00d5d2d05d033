-- In the run of a script the turns that are put in come to an end.
use Rattle.std.proofs.Common.{◌≡◌, ◌++◌, ℕ, zero, suc, Bool, true, false, All, cond, List, [], ◌∷◌, map, Option, Some, None, refl, ap, sym, subst, ◌∙◌}
use Rattle.std.specs.Prelude.{IfSome}
use Rattle.std.proofs.lemmas.Bool.{and_from}
use Rattle.std.proofs.lemmas.List.Elements.{All-cons, All-head, All-nil, All-tail}
use Rattle.zn_base.specs.Lines.{lines_of}
use Rattle.zn_base.specs.Names.{Name}
use Rattle.brand_hooks.specs.Brands.{Tabled}
use Rattle.commit_journal.specs.Bodies.{IsRecord}
use Rattle.commit_journal.specs.declared.records.Commit.{Commit}
use Rattle.commit_journal.specs.declared.records.Record.{Record}
use Rattle.zone_machine.specs.Code.Records.{taken}
use Rattle.zone_machine.specs.Machine.{opening}
use Rattle.zone_machine.specs.Machine.Histories.{after, history, is_history}
use Rattle.zone_machine.specs.Machine.Pools.{allowed, fits}
use Rattle.zone_cases.specs.State.{State, stored}
use Rattle.zone_cases.specs.declared.events.Entry.{Entry}
use Rattle.zone_cases.specs.declared.events.Event.{Event}
use Rattle.zone_cases.specs.declared.events.Event.TheVariants.{Turn}
use Rattle.zone_views.proofs.Naming_laws.{record-right}
use Rattle.zone_views.proofs.Numbered.{allowed-fits, numbered-history}
use Rattle.zone_views.specs.Storable.{IsRight}
use Rattle.zones_run.proofs.Histories.{after-push, due-told, history-push}
use Rattle.zones_run.proofs.Permitted.{AllSuit, all_suit}
use Rattle.zones_run.proofs.Resting.{record_left}
use Rattle.zones_run.proofs.Turns_end.{script_turns_end}
use Rattle.zones_run.specs.Scripting.{all_unstated, entry_in, is_last, numbered, opened, put_in, state_after, state_past, turns_after, turns_until, with_events}
use Rattle.zones_run.specs.Scripts.{At_misfit, Ending, Script, ends, entries_from, entry_for, fits_due, script_of, state_for, unstated, with_due}
use Rattle.zones_run.specs.Turns_end.{EndsFor, IsFollowed, ScriptTicketsEnd, TicketsEnd}
use Rattle.zones_run.specs.declared.due.Due.{Due}
use Rattle.zones_run.specs.declared.turns.Opened.{Opened}
use Rattle.zones_run.specs.declared.words.Mode.TheVariants.{WithTurns}
use Rattle.zones_run.specs.declared.words.Telling.{Telling}

-- the turns for a ticket are of the zone that gave it, and open none
abbrev AreOf : Name → List Entry → Type 0
AreOf z es = All (λ (e : Entry). e.event ≡ Turn z) es

turns_of_zone : (more : ℕ) (o : Opened) (S : State) → AreOf o.zone (history S (turns_until more o S))
unfolding turns_until
turns_of_zone zero o S = All-nil (λ (e : Entry). e.event ≡ Turn o.zone)
turns_of_zone (suc more) o S =
    let T = state_after S (Turn o.zone) in
    at_last (is_last o.ticket (entry_in S (Turn o.zone)).reply.head) T (turns_of_zone more o T)
  where
    at_last : (b : Bool) (T : State) → AreOf o.zone (history T (turns_until more o T)) → AreOf o.zone (entry_in S (Turn o.zone) ∷ history T (cond b [] (turns_until more o T)))
    at_last true T are = All-cons (λ (e : Entry). e.event ≡ Turn o.zone) (entry_in S (Turn o.zone)) [] refl (All-nil (λ (e : Entry). e.event ≡ Turn o.zone))
    at_last false T are = All-cons (λ (e : Entry). e.event ≡ Turn o.zone) (entry_in S (Turn o.zone)) (history T (turns_until more o T)) refl are

opens_none : (z : Name) (e : Entry) → e.event ≡ Turn z → opened e ≡ None
opens_none z e is = ap (λ event. opened (record e { event = event })) is

turns_end_none : (z : Name) (turns rest : List Entry) → AreOf z turns → TicketsEnd rest → TicketsEnd (turns ++ rest)
turns_end_none z [] rest are more = more
turns_end_none z (e ∷ turns) rest are more = (
  subst (λ o. IsFollowed o (turns ++ rest)) (sym (opens_none z e (All-head (λ (e : Entry). e.event ≡ Turn z) e turns are))) tt,
  turns_end_none z turns rest (All-tail (λ (e : Entry). e.event ≡ Turn z) e turns are) more,
)

-- an entry that opened such a ticket, or none, is followed so, and so are those that follow
abbrev AreEnded : Option Opened → List Entry → Type 0
AreEnded o rest = IsFollowed o rest × TicketsEnd rest

-- the entries of turns that are put in stand before those of the other events
entries_put : (n : ℕ) (S : State) (turns : List Event) (events : List (ℕ × Due))
    → entries_from S (map (λ (x : ℕ × Due). x.1) (all_unstated (numbered n turns) ++ events)) ≡ history S turns ++ entries_from (state_past S turns) (map (λ (x : ℕ × Due). x.1) events)
entries_put n S [] events = refl
entries_put n S (e ∷ turns) events = ap (λ l. entry_in S e ∷ l) (entries_put n (state_after S e) turns events)

module _ (telling : Telling) (brands : List Tabled) (R : List Commit) (right : (z : Name) → IfSome (stored z R) IsRight) where
  -- a state that some history reaches, from the opening on, whose grants fit
  record IsReached (S : State) : Type 0 where
    past : List Entry
    fit : is_history fits (opening brands R) past ≡ true
    there : after (opening brands R) past ≡ S

  due_fits : (S : State) (d : Due) → d.stated ≡ None → fits S d.event (allowed S d.event) ≡ true → fits S d.event (taken d.stated S d.event) ≡ true
  due_fits S d none fit = ap (λ stated. fits S d.event (taken stated S d.event)) none ∙ fit

  reached_one : (S : State) (d : Due) → d.stated ≡ None → IsReached S → IsReached (state_for S d)
  reached_one S d none h = record {
    past = h.past ++ entry_for S d ∷ [];
    fit = history-push fits (opening brands R) h.past (entry_for S d) h.fit
        (subst (λ T. is_history fits T (entry_for S d ∷ []) ≡ true) (sym h.there)
        (and_from _ _ (and_from _ _ (due-told S d) (due_fits S d none (subst (λ T. fits T d.event (allowed T d.event) ≡ true) h.there (allowed-fits (after (opening brands R) h.past) d.event (numbered-history brands R h.past h.fit))))) refl));
    there = after-push (opening brands R) h.past (entry_for S d) ∙ ap (λ T. after T (entry_for S d ∷ [])) h.there;
  }

  reached_past : (S : State) (turns : List Event) → IsReached S → IsReached (state_past S turns)
  reached_past S [] h = h
  reached_past S (e ∷ turns) h = reached_past (state_after S e) turns (reached_one S (unstated e) refl h)

  ends_at : (o : Opened) (S : State) → IsReached S → EndsFor o (history S (turns_after (WithTurns telling) (Some o) S))
  ends_at o S h = subst (λ T. EndsFor o (history T (turns_after (WithTurns telling) (Some o) T))) h.there (script_turns_end telling brands R h.past o h.fit (right o.zone))

  -- what follows an entry
  followed : (o : Option Opened) (S : State) (rest : List Entry) → IsReached S → TicketsEnd rest → AreEnded o (history S (turns_after (WithTurns telling) o S) ++ rest)
  followed None S rest h more = (tt, more)
  followed (Some o) S rest h more =
      let are = turns_of_zone 10000000 o S in
      (record { turns = history S (turns_after (WithTurns telling) (Some o) S); others = rest; whole = refl; are = are; end = ends_at o S h }, turns_end_none o.zone (history S (turns_after (WithTurns telling) (Some o) S)) rest are more)

  tickets_end : (S : State) (events : List (ℕ × Due)) (ending : Ending) → AllSuit (WithTurns telling) events → IsReached S → TicketsEnd (entries_from S (map (λ (x : ℕ × Due). x.1) (put_in (WithTurns telling) S events ending).events))
  tickets_end S [] ending suit h = tt
  tickets_end S (e ∷ events) ending suit h =
      let T = state_for S e.1 in
      let turns = turns_after (WithTurns telling) (opened (entry_for S e.1)) T in
      let reached = reached_one S e.1 suit.0 h in
      at_fit (fits_due S e.1) turns (put_in (WithTurns telling) (state_past T turns) events ending)
      (followed (opened (entry_for S e.1)) T (entries_from (state_past T turns) (map (λ (x : ℕ × Due). x.1) (put_in (WithTurns telling) (state_past T turns) events ending).events)) reached
      (tickets_end (state_past T turns) events ending suit.1 (reached_past T turns reached)))
    where
      at_fit : (b : Bool) (turns : List Event) (script : Script)
          → AreEnded (opened (entry_for S e.1)) (history (state_for S e.1) turns ++ entries_from (state_past (state_for S e.1) turns) (map (λ (x : ℕ × Due). x.1) script.events))
          → TicketsEnd (entries_from S (map (λ (x : ℕ × Due). x.1) (cond b (with_due e (with_events (numbered e.0 turns) script)) (ends (At_misfit e.0))).events))
      at_fit true turns script all = subst (AreEnded (opened (entry_for S e.1))) (sym (entries_put e.0 (state_for S e.1) turns script.events)) all
      at_fit false turns script all = tt

-- what an image has of a zone is right
right_of : (row : Option Record) → IfSome row IsRecord → IfSome row IsRight
right_of None h = tt
right_of (Some row) h = record-right row h

pub script_tickets_end : ScriptTicketsEnd
script_tickets_end telling brands R image bytes holds =
    let script = script_of (WithTurns telling) bytes in
    tickets_end telling brands R (λ z. right_of (stored z R) (record_left z R holds.leave)) (opening brands R) script.events script.ending (all_suit (WithTurns telling) false 1 (lines_of bytes))
    (record { past = []; fit = refl; there = refl })
