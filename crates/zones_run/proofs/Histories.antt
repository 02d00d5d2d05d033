-- Histories and their changes, one entry further.
use Rattle.std.proofs.Common.{◌≡◌, ◌&&◌, ℕ, List, [], ◌∷◌, ◌++◌, Bool, true, false, Option, Some, None, Ok, Err, refl, ap, sym, ◌∙◌, append_assoc}
use Rattle.std.proofs.lemmas.Bool.{and_from}
use Rattle.std.proofs.lemmas.List.{append-nil}
use Rattle.zn_base.specs.Names.{Name}
use Rattle.zone_pools.proofs.Same_laws.{grant-Decides}
use Rattle.zoneadmd_steps.specs.Arrivals.{Arrival, New_claim, New_id, New_process, New_record, No_new_thing}
use Rattle.zoneadmd_steps.specs.Objects.{Processes_go}
use Rattle.zone_machine.proofs.Same_laws.{reply-Decides, subject-Decides}
use Rattle.zone_cases.specs.State.{State}
use Rattle.zone_cases.specs.State.Decisions.{act_of, after_came}
use Rattle.zone_cases.specs.State.Edits.{Edit, Of_objects, comes, console_gone, edit, edits, keeps_console}
use Rattle.zone_cases.specs.State.Worlds.{view}
use Rattle.zone_machine.specs.Machine.{decide, one, one_of, session_number, subject, whole}
use Rattle.zone_machine.specs.Machine.Changes.{change, change_of, changes, committed}
use Rattle.zone_machine.specs.Code.Records.{taken}
use Rattle.zone_machine.specs.Machine.Histories.{after, after_entry, is_allowed, is_history, is_told}
use Rattle.zone_machine.specs.Machine.Pools.{allowed, fits}
use Rattle.zone_pools.specs.declared.grant.Grant.{Grant}
use Rattle.trace_text.specs.Given.{Given, given_of}
use Rattle.trace_text.specs.Lines.{Said, event_of}
use Rattle.zones_run.specs.Scripts.{due_given, due_said, entry_for, fits_due, fits_stated, permits, said_by, states, unstated}
use Rattle.zones_run.specs.declared.due.Due.{Due}
use Rattle.zones_run.specs.declared.words.Mode.{Mode}
use Rattle.zones_run.specs.declared.words.Mode.TheVariants.{Purged, Replies, Stated, WithTurns}
use Rattle.zone_cases.specs.declared.events.Entry.{Entry}
use Rattle.zone_cases.specs.declared.events.Event.{Event}
use Rattle.zone_cases.specs.declared.events.Event.TheVariants.{Process as Call_of, Restart, Session, System, Turn}
use Rattle.zone_cases.specs.declared.events.Subject.{Subject}
use Rattle.zone_cases.specs.declared.events.Subject.TheVariants.{Zone, Global, Whole}

pub after-push : (S : State) (h : List Entry) (e : Entry) → after S (h ++ e ∷ []) ≡ after_entry (after S h) e
after-push S [] e = refl
after-push S (d ∷ h) e = after-push (after_entry S d) h e

pub changes-push : (S : State) (h : List Entry) (e : Entry) → changes S (h ++ e ∷ []) ≡ changes S h ++ change (after S h) e
changes-push S [] e = append-nil (change S e)
changes-push S (d ∷ h) e = ap (λ l. change S d ++ l) (changes-push (after_entry S d) h e) ∙ sym (append_assoc (change S d) (changes (after_entry S d) h) (change (after (after_entry S d) h) e))

-- no edit touches the commits
commits-edit : (z : Name) (n : Option ℕ) (e : Edit) (S : State) → (edit z n e S).commits ≡ S.commits
unfolding edit
commits-edit z n (Of_objects (Processes_go p)) S = refl
commits-edit z n _ S = refl

commits-edits : (z : Name) (n : Option ℕ) (es : List Edit) (S : State) → (edits z n es S).commits ≡ S.commits
commits-edits z n [] S = refl
commits-edits z n (e ∷ es) S = commits-edits z n es (edit z n e S) ∙ commits-edit z n e S

-- nor does what becomes of a console
commits-gone : (z : Name) (keeps : Bool) (S : State) → (console_gone z keeps S).commits ≡ S.commits
commits-gone z true S = refl
commits-gone z false S = refl

-- what comes is one commit more, where it is a record
commits-came : (z : Name) (came : Option Arrival) (S : State) → (after_came z came S).commits ≡ S.commits ++ committed z came
unfolding comes
commits-came z None S = sym (append-nil S.commits)
commits-came z (Some (New_record row)) S = commits-gone z (keeps_console row) (record S { commits = S.commits ++ record { zone = z; stored = row } ∷ [] })
commits-came z (Some (New_process p)) S = sym (append-nil S.commits)
commits-came z (Some (New_id i)) S = sym (append-nil S.commits)
commits-came z (Some (New_claim c)) S = sym (append-nil S.commits)
commits-came z (Some No_new_thing) S = sym (append-nil S.commits)

-- an event of the whole system commits nothing
commits-whole : (S : State) (e : Event) → (whole e S).commits ≡ S.commits
commits-whole S (Session n text) = refl
commits-whole S (Turn z) = refl
commits-whole S (Call_of z pid c) = refl
commits-whole S (System what) = refl
commits-whole S Restart = refl

commits-entry : (S : State) (e : Entry) → (after_entry S e).commits ≡ S.commits ++ change S e
unfolding one
commits-entry S e = by_subject (subject S e.event)
  where
    by_subject : (t : Subject) → (one_of t S e.event e.grant).state.commits ≡ S.commits ++ change_of t S e
    by_subject (Zone z) =
        let a = act_of (decide (view z S) e.event) e.grant in
        commits-edits z (session_number e.event) a.effect.edits (after_came z a.came S) ∙ commits-came z a.came S
    by_subject Global = sym (append-nil S.commits)
    by_subject Whole = commits-whole S e.event ∙ sym (append-nil S.commits)

pub commits-after : (S : State) (h : List Entry) → (after S h).commits ≡ S.commits ++ changes S h
commits-after S [] = sym (append-nil S.commits)
commits-after S (e ∷ h) =
    commits-after (after_entry S e) h ∙ ap (λ l. l ++ changes (after_entry S e) h) (commits-entry S e) ∙ append_assoc S.commits (change S e) (changes (after_entry S e) h)

pub history-push : (permitted : State → Event → Grant → Bool) (S : State) (h : List Entry) (e : Entry) → is_history permitted S h ≡ true → is_history permitted (after S h) (e ∷ []) ≡ true → is_history permitted S (h ++ e ∷ []) ≡ true
history-push permitted S [] e is more = more
history-push permitted S (d ∷ h) e is more =
    at_test (is_told S d && permitted S d.event d.grant) (is_history permitted (after_entry S d) h) (is_history permitted (after_entry S d) (h ++ e ∷ [])) is (λ rest. history-push permitted (after_entry S d) h e rest more)
  where
    at_test : (a b c : Bool) → (a && b) ≡ true → (b ≡ true → c ≡ true) → (a && c) ≡ true
    at_test true b c is lead = lead is
    at_test false b c is lead = is

-- what is due in a run states a grant where its lines do, and else none
abbrev pub Suits : Mode → Due → Type 0
Suits Stated d = (g : Grant) × (d.stated ≡ Some g)
Suits mode d = d.stated ≡ None

allowed-same : (S : State) (d : Due) → d.stated ≡ None → is_allowed S d.event (taken d.stated S d.event) ≡ true
allowed-same S d is = ap (λ stated. is_allowed S d.event (taken stated S d.event)) is ∙ (grant-Decides (allowed S d.event) (allowed S d.event)).1 refl

-- its grant is permitted
pub permits-due : (mode : Mode) (S : State) (d : Due) → Suits mode d → fits_due S d ≡ true → permits mode S d.event (taken d.stated S d.event) ≡ true
permits-due Stated S d suits h = ap (λ stated. fits S d.event (taken stated S d.event)) suits.1 ∙ (sym (ap (λ stated. fits_stated stated S d.event) suits.1) ∙ h)
permits-due Replies S d suits fits = allowed-same S d suits
permits-due (WithTurns telling) S d suits fits = allowed-same S d suits
permits-due (Purged zone) S d suits fits = allowed-same S d suits

-- its entry is told
pub due-told : (S : State) (d : Due) → is_told S (entry_for S d) ≡ true
due-told S d = and_from _ _ ((subject-Decides (subject S d.event) (subject S d.event)).1 refl) ((reply-Decides (one S d.event (taken d.stated S d.event)).reply (one S d.event (taken d.stated S d.event)).reply).1 refl)

due-one : (mode : Mode) (S : State) (d : Due) → Suits mode d → fits_due S d ≡ true → is_history (permits mode) S (entry_for S d ∷ []) ≡ true
due-one mode S d suits fits = and_from _ _ (and_from _ _ (due-told S d) (permits-due mode S d suits fits)) refl

-- the entry of what is due goes on a history whose grants are permitted
pub history-entry : (mode : Mode) (S : State) (h : List Entry) (T : State) (d : Due) → Suits mode d → fits_due T d ≡ true → T ≡ after S h → is_history (permits mode) S h ≡ true → is_history (permits mode) S (h ++ entry_for T d ∷ []) ≡ true
history-entry mode S h T d suits fits reached is =
    history-push (permits mode) S h (entry_for T d) is (ap (λ (U : State). is_history (permits mode) U (entry_for T d ∷ [])) (sym reached) ∙ due-one mode T d suits fits)

-- what a line says is such
due_suits : (mode : Mode) (said : Said) (d : Due) → states mode ≡ false → due_said said ≡ Ok (Some d) → d.stated ≡ None
due_suits mode (Ok None) d not is = absurd (cc)
due_suits mode (Ok (Some e)) d not is = let same : unstated e ≡ d = cc in sym (ap (λ (d : Due). d.stated) same)
due_suits mode (Err fault) d not is = absurd (cc)

given_suits : (given : Given) (d : Due) → due_given given ≡ Ok (Some d) → (g : Grant) × (d.stated ≡ Some g)
given_suits (Ok None) d is = absurd (cc)
given_suits (Ok (Some g)) d is = let same : d ≡ record { event = g.1; stated = Some g.0 } = cc in (g.0, ap (λ (d : Due). d.stated) same)
given_suits (Err fault) d is = absurd (cc)

pub suits_said : (mode : Mode) (started : Bool) (line : List ℕ) (d : Due) → said_by mode started line ≡ Ok (Some d) → Suits mode d
suits_said Replies started line d is = due_suits Replies (event_of started line) d refl is
suits_said (WithTurns telling) started line d is = due_suits (WithTurns telling) (event_of started line) d refl is
suits_said (Purged zone) started line d is = due_suits (Purged zone) (event_of started line) d refl is
suits_said Stated started line d is = given_suits (given_of started line) d is
