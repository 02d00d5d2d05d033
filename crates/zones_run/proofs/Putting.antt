-- The turns that are put in: they count, they restart nothing, and none follows a line that isn't answered by a ticket.
use Rattle.std.proofs.Common.{◌≡◌, ◌⊎◌, inl, inr, ◌++◌, ◌||◌, ℕ, zero, suc, Bool, true, false, cond, List, [], ◌∷◌, map, All, Option, Some, None, refl, ap, sym, subst, ◌∙◌}
use Rattle.std.proofs.Math.Bool.{or-true}
use Rattle.std.proofs.lemmas.Bool.{true≢false}
use Rattle.std.proofs.lemmas.List.Elements.{All-cons, All-nil}
use Rattle.std.specs.List.{list_any}
use Rattle.zone_cases.specs.Events.{is_restart}
use Rattle.zone_machine.specs.Machine.Histories.{history}
use Rattle.zone_machine.specs.Machine.Pools.{allowed}
use Rattle.zone_cases.specs.State.{State}
use Rattle.zone_cases.specs.declared.events.Entry.{Entry}
use Rattle.zone_cases.specs.declared.events.Event.{Event}
use Rattle.zone_cases.specs.declared.events.Event.TheVariants.{Process as Call_of, Restart, Session, System, Turn}
use Rattle.zn_base.specs.Names.{Name}
use Rattle.zn_base.specs.declared.name.ZoneName.{ZoneName}
use Rattle.zone_machine.specs.Code.Decided.{entry_by, subject_by}
use Rattle.zone_cases.specs.declared.events.Answer.{Answer}
use Rattle.zone_cases.specs.declared.events.Subject.{Subject}
use Rattle.zone_cases.specs.declared.events.Subject.TheVariants.{Global, Whole, Zone}
use Rattle.zone_cases.specs.declared.events.Whose.{Whose}
use Rattle.zone_cases.specs.declared.events.Whose.TheVariants.{Found, Own}
use Rattle.zone_cases.specs.declared.replies.Head.{Head}
use Rattle.zone_cases.specs.declared.replies.Head.TheVariants.{Ok as Accepted, Refused, Status, Ticket, Turned}
use Rattle.zones_run.specs.Midway.{puts_until}
use Rattle.zones_run.specs.Scripting.{all_unstated, both_parts, entry_in, is_last, is_turn, numbered, opened, opened_by, put_in, puts_in, state_after, state_past, ticket_by, turns_after, turns_until, with_events, zone_by}
use Rattle.zones_run.specs.Scripts.{At_misfit, Ending, Script, counts_event, ends, entries_from, entry_for, fits_due, fits_stated, state_for, with_due}
use Rattle.zones_run.specs.declared.due.Due.{Due}
use Rattle.zones_run.specs.declared.turns.Opened.{Opened}
use Rattle.zones_run.specs.declared.words.Mode.{Mode}
use Rattle.zones_run.specs.declared.words.Mode.TheVariants.{Purged, Replies, Stated, WithTurns}
use Rattle.zones_run.proofs.Starting.{started_after}

pub unnumbered : (n : ℕ) (es : List Event) → map (λ (x : ℕ × Event). x.1) (numbered n es) ≡ es
unnumbered n [] = refl
unnumbered n (e ∷ es) = ap (λ l. e ∷ l) (unnumbered n es)

-- no ticket, no turns
pub none_after : (mode : Mode) (S : State) → turns_after mode None S ≡ []
none_after Replies S = refl
none_after (Purged zone) S = refl
none_after Stated S = refl
none_after (WithTurns telling) S = refl

-- a line that is answered by a ticket counts, and so does each turn
opened_counts : (e : Event) (s : Subject) (h : Head) (o : Opened) → opened_by e s h ≡ Some o → counts_event e ≡ true
opened_counts (Session n text) s h o is = refl
opened_counts (Turn z) s h o is = refl
opened_counts (Call_of z pid c) s h o is = refl
opened_counts (System what) s h o is = absurd (cc)
opened_counts Restart s h o is = refl

turn_counts : (S : State) (e : Event) → counts_event e ≡ true → (state_after S e).started ≡ true
turn_counts S e is = started_after S e (allowed S e) ∙ ap (λ b. S.started || b) is ∙ or-true S.started

due_counts : (S : State) (d : Due) → counts_event d.event ≡ true → (state_for S d).started ≡ true
due_counts S d is = started_after S d.event (entry_for S d).grant ∙ ap (λ b. S.started || b) is ∙ or-true S.started

started_until : (more : ℕ) (o : Opened) (S : State) → S.started ≡ true → (state_past S (turns_until more o S)).started ≡ true
unfolding turns_until
started_until zero o S is = is
started_until (suc more) o S is =
    let T = state_after S (Turn o.zone) in
    let begun : T.started ≡ true = turn_counts S (Turn o.zone) refl in
    elim (is_last o.ticket (entry_in S (Turn o.zone)).reply.head) as (λ b. (state_past T (cond b [] (turns_until more o T))).started ≡ true) [
      | true ↦ begun
      | false ↦ started_until more o T begun
    ]

by_ticket : (mode : Mode) (said : Option Opened) (S : State) → ((o : Opened) → said ≡ Some o → S.started ≡ true) → (state_past S (turns_after mode said S)).started ≡ S.started
by_ticket Replies said S begun = refl
by_ticket (Purged zone) said S begun = refl
by_ticket Stated said S begun = refl
by_ticket (WithTurns telling) None S begun = refl
by_ticket (WithTurns telling) (Some o) S begun = started_until 10000000 o S (begun o refl) ∙ sym (begun o refl)

-- what the lines after the turns say depends on the line before them alone
pub started_past : (mode : Mode) (S : State) (d : Due) → (state_past (state_for S d) (turns_after mode (opened (entry_for S d)) (state_for S d))).started ≡ (S.started || counts_event d.event)
started_past mode S d =
    by_ticket mode (opened (entry_for S d)) (state_for S d) (λ o is. due_counts S d (opened_counts d.event (entry_for S d).subject (entry_for S d).reply.head o is)) ∙ started_after S d.event (entry_for S d).grant

-- they are turns
abbrev AreTurns : List Entry → Type 0
AreTurns h = All (λ (x : Entry). is_turn x.event ≡ true) h

pub until_turns : (more : ℕ) (o : Opened) (S : State) → All (λ (x : Entry). is_turn x.event ≡ true) (history S (turns_until more o S))
unfolding turns_until
until_turns zero o S = All-nil (λ (x : Entry). is_turn x.event ≡ true)
until_turns (suc more) o S =
    let T = state_after S (Turn o.zone) in
    elim (is_last o.ticket (entry_in S (Turn o.zone)).reply.head) as (λ b. AreTurns (entry_in S (Turn o.zone) ∷ history T (cond b [] (turns_until more o T)))) [
      | true ↦ All-cons (λ (x : Entry). is_turn x.event ≡ true) (entry_in S (Turn o.zone)) [] refl (All-nil (λ (x : Entry). is_turn x.event ≡ true))
      | false ↦ All-cons (λ (x : Entry). is_turn x.event ≡ true) (entry_in S (Turn o.zone)) (history T (turns_until more o T)) refl (until_turns more o T)
    ]

-- and restart nothing
until_rests : (more : ℕ) (o : Opened) (S : State) → list_any is_restart (turns_until more o S) ≡ false
unfolding turns_until
until_rests zero o S = refl
until_rests (suc more) o S =
    let T = state_after S (Turn o.zone) in
    elim (is_last o.ticket (entry_in S (Turn o.zone)).reply.head) as (λ b. list_any is_restart (cond b [] (turns_until more o T)) ≡ false) [ true ↦ refl | false ↦ until_rests more o T ]

after_rests : (mode : Mode) (said : Option Opened) (S : State) → list_any is_restart (turns_after mode said S) ≡ false
after_rests Replies said S = refl
after_rests (Purged zone) said S = refl
after_rests Stated said S = refl
after_rests (WithTurns telling) None S = refl
after_rests (WithTurns telling) (Some o) S = until_rests 10000000 o S

or_rest : (a b : Bool) → (a || b) ≡ false → b ≡ false
or_rest false b h = h
or_rest true b h = absurd (cc)

first_rests : (a b x : Bool) → (a || b) ≡ false → (a || x) ≡ x
first_rests false b x h = refl
first_rests true b x h = absurd (cc)

-- so the events that restart are some of those of the lines
numbered_rests : (n : ℕ) (es : List Event) (events : List (ℕ × Due)) → list_any is_restart es ≡ false → list_any (λ (x : ℕ × Due). is_restart x.1.event) (all_unstated (numbered n es) ++ events) ≡ list_any (λ (x : ℕ × Due). is_restart x.1.event) events
numbered_rests n [] events h = refl
numbered_rests n (e ∷ es) events h =
    ap (λ b. is_restart e || b) (numbered_rests n es events (or_rest (is_restart e) (list_any is_restart es) h))
    ∙ first_rests (is_restart e) (list_any is_restart es) (list_any (λ (x : ℕ × Due). is_restart x.1.event) events) h

abbrev any_restart : List (ℕ × Due) → Bool
any_restart events = list_any (λ (x : ℕ × Due). is_restart x.1.event) events

or_lead : (a b c : Bool) → (b ≡ true → c ≡ true) → (a || b) ≡ true → (a || c) ≡ true
or_lead true b c lead h = refl
or_lead false b c lead h = lead h

pub put_rests : (mode : Mode) (S : State) (events : List (ℕ × Due)) (ending : Ending) → list_any (λ (x : ℕ × Due). is_restart x.1.event) (put_in mode S events ending).events ≡ true → list_any (λ (x : ℕ × Due). is_restart x.1.event) events ≡ true
put_rests mode S [] ending h = h
put_rests mode S (e ∷ events) ending h =
    let T = state_for S e.1 in
    let more = turns_after mode (opened (entry_for S e.1)) T in
    let rest = put_in mode (state_past T more) events ending in
    by_fit (fits_due S e.1) e (with_events (numbered e.0 more) rest)
    (λ k. or_lead (is_restart e.1.event) (any_restart (with_events (numbered e.0 more) rest).events) (any_restart events)
    (λ r. put_rests mode (state_past T more) events ending (sym (numbered_rests e.0 more rest.events (after_rests mode (opened (entry_for S e.1)) T)) ∙ r)) k) h
  where
    by_fit : (b : Bool) (e : ℕ × Due) (script : Script) → (any_restart (e ∷ script.events) ≡ true → any_restart (e ∷ events) ≡ true) → any_restart (cond b (with_due e script) (ends (At_misfit e.0))).events ≡ true → any_restart (e ∷ events) ≡ true
    by_fit true e script lead k = lead k
    by_fit false e script lead k = absurd (true≢false (sym k))

-- only `script` puts any in
none_of : (mode : Mode) (said : Option Opened) (S : State) → puts_in mode ≡ false → turns_after mode said S ≡ []
none_of Replies said S h = refl
none_of (Purged zone) said S h = refl
none_of Stated said S h = refl
none_of (WithTurns telling) said S h = absurd (true≢false h)

pub puts_none : (mode : Mode) → (mode ≡ Replies) ⊎ (((zone : ZoneName) × (mode ≡ Purged zone)) ⊎ (mode ≡ Stated)) → puts_in mode ≡ false
puts_none mode (inl is) = ap puts_in is
puts_none mode (inr (inl is)) = ap puts_in is.1
puts_none mode (inr (inr is)) = ap puts_in is

-- where no grants are stated, and none are put in, the events are those of the lines
abbrev pub NoneStated : List (ℕ × Due) → Type 0
NoneStated [] = Unit {0}
NoneStated (e ∷ events) = (e.1.stated ≡ None) × NoneStated events

pub nothing_put : (mode : Mode) (S : State) (events : List (ℕ × Due)) (ending : Ending) → puts_in mode ≡ false → NoneStated events → put_in mode S events ending ≡ record { events = events; ending = ending }
nothing_put mode S [] ending h none = refl
nothing_put mode S (e ∷ events) ending h none =
    let T = state_for S e.1 in
    let more = turns_after mode (opened (entry_for S e.1)) T in
    let rest = put_in mode (state_past T more) events ending in
    ap (λ b. cond b (with_due e (with_events (numbered e.0 more) rest)) (ends (At_misfit e.0))) (unstated_fits S e.1 none.0)
    ∙ ap (λ more. with_due e (with_events (numbered e.0 more) (put_in mode (state_past T more) events ending))) (none_of mode (opened (entry_for S e.1)) T h)
    ∙ ap (with_due e) (nothing_put mode T events ending h none.1)
  where
    unstated_fits : (S : State) (d : Due) → d.stated ≡ None → fits_due S d ≡ true
    unstated_fits S d is = ap (λ stated. fits_stated stated S d.event) is

-- of a turn and those after it
pub next_put : (more : ℕ) (o : Opened) (m : ℕ) (S : State) → puts_until (suc more) o m S ≡ (m, Turn o.zone) ∷ numbered m (cond (is_last o.ticket (entry_in S (Turn o.zone)).reply.head) [] (turns_until more o (state_after S (Turn o.zone))))
unfolding turns_until
next_put more o m S = refl

-- the entries of turns that are put in
pub entries_unstated : (S : State) (events : List (ℕ × Event)) → entries_from S (map (λ (x : ℕ × Due). x.1) (all_unstated events ++ [])) ≡ history S (map (λ (x : ℕ × Event). x.1) events)
entries_unstated S [] = refl
entries_unstated S (e ∷ events) = ap (λ l. entry_in S e.1 ∷ l) (entries_unstated (state_after S e.1) events)

pub puts_turns : (more : ℕ) (o : Opened) (m : ℕ) (S : State) → All (λ (x : Entry). is_turn x.event ≡ true) (entries_from S (map (λ (x : ℕ × Due). x.1) (all_unstated (puts_until more o m S) ++ [])))
puts_turns more o m S =
    subst AreTurns (sym (entries_unstated S (puts_until more o m S) ∙ ap (history S) (unnumbered m (turns_until more o S)))) (until_turns more o S)

-- the ticket that a line was answered, from its parts
by_head : (n : ℕ) (text : List ℕ) (z : Name) (h : Head) → opened_by (Session n text) (Zone z) h ≡ both_parts (ticket_by (Session n text) h) (Some z)
by_head n text z (Ticket t) = refl
by_head n text z (Status status) = refl
by_head n text z Accepted = refl
by_head n text z (Refused r) = refl
by_head n text z (Turned r) = refl

no_zone : (e : Event) (h : Head) → both_parts (ticket_by e h) None ≡ None
no_zone e h = none (ticket_by e h)
  where
    none : (t : Option ℕ) → both_parts t None ≡ None
    none None = refl
    none (Some t) = refl

session_opened : (n : ℕ) (text : List ℕ) (w : Whose) (h : Head) → opened_by (Session n text) (subject_by (Session n text) w) h ≡ both_parts (ticket_by (Session n text) h) (zone_by w)
session_opened n text (Found (Zone z)) h = by_head n text z h
session_opened n text (Found Global) h = sym (no_zone (Session n text) h)
session_opened n text (Found Whole) h = sym (no_zone (Session n text) h)
session_opened n text Own h = sym (no_zone (Session n text) h)

pub opened_parts : (e : Event) (a : Answer) → opened (entry_by e a) ≡ both_parts (ticket_by e a.reply.head) (zone_by a.whose)
opened_parts (Session n text) a = session_opened n text a.whose a.reply.head
opened_parts (Turn z) a = refl
opened_parts (Call_of z pid c) a = refl
opened_parts (System what) a = refl
opened_parts Restart a = refl
