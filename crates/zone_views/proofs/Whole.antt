-- What is declared, and the replies to declarations, which no other event changes.
use Rattle.std.proofs.Common.{◌≡◌, ◌∷◌, ◌∙◌, [], ℕ, List, Bool, true, false, Option, Some, None, Result, Ok as Right, Err, ap, filter, refl, sym}
use Rattle.std.proofs.lemmas.Bool.{false≢true, true≢false}
use Rattle.kernel_objects.specs.Processes.{Process, has_pid}
use Rattle.zn_base.specs.Names.{Name, name_of}
use Rattle.zn_base.specs.declared.name.NameFault.{NameFault}
use Rattle.zone_pools.specs.Firsts.{first_of}
use Rattle.zone_pools.specs.declared.grant.Grant.{Grant}
use Rattle.zone_pools.specs.declared.owned.Owned.{Owned}
use Rattle.zone_machine.proofs.Common_laws.{common-one}
use Rattle.zoneadmd_steps.specs.Arrivals.{Arrival, New_claim, New_id, New_process, New_record, No_new_thing}
use Rattle.zone_machine.specs.Machine.Common.{Common, came_common}
use Rattle.zone_machine.specs.Machine.Histories.{asked, concerns, entry_at, only, run}
use Rattle.zone_cases.specs.Session.Lines.{Command, Kill, Line, line_of}
use Rattle.zone_machine.specs.Machine.{declare_reply, declared_by, holder, line_subject, named_subject, one, session_subject, subject, subject_of_name, whole}
use Rattle.zone_cases.specs.State.{At, Idle, Session as Session_mode, State}
use Rattle.zone_cases.specs.declared.events.Entry.{Entry}
use Rattle.zone_cases.specs.declared.events.Event.{Event}
use Rattle.zone_cases.specs.declared.events.Event.TheVariants.{Process as Call_of, Restart, Session, System, Turn}
use Rattle.zone_cases.specs.declared.events.Subject.{Subject}
use Rattle.zone_cases.specs.declared.events.Subject.TheVariants.{Zone, Global, Whole}
use Rattle.zone_views.proofs.Purge.{told-skip, told-step}
use Rattle.zone_views.specs.Whole.{is_whole, whole_replies}

-- the events of the whole system are declarations and restarts, in every state
abbrev is_of_all : Event → Bool
is_of_all (System what) = true
is_of_all Restart = true
is_of_all (Session n text) = false
is_of_all (Turn z) = false
is_of_all (Call_of z pid c) = false

whole-is : (S : State) (e : Event) → is_whole (subject S e) ≡ is_of_all e
unfolding subject
whole-is S (System what) = refl
whole-is S Restart = refl
whole-is S (Turn z) = refl
whole-is S (Call_of z pid c) = refl
whole-is S (Session n text) = at_session (S.sessions n)
  where
    line : Line
    line = line_of text

    at_name : (r : Result Name NameFault) → is_whole (subject_of_name r) ≡ false
    at_name (Right z) = refl
    at_name (Err fault) = refl

    at_word : (word : Option (List ℕ)) → is_whole (named_subject word) ≡ false
    at_word None = refl
    at_word (Some word) = at_name (name_of word)

    at_holder : (o : Option (Owned Process)) → is_whole (holder o) ≡ false
    at_holder None = refl
    at_holder (Some o) = refl

    at_command : (c : Command) → is_whole (line_subject line.zone S.processes c) ≡ false
    at_command (Kill signal pid) = at_holder (first_of (filter (λ o. has_pid pid o.it) S.processes))
    at_command _ = at_word line.zone

    at_session : (s : Session_mode) → is_whole (session_subject line S.processes s) ≡ false
    at_session Idle = at_command line.command
    at_session (At y d) = refl

-- what an event of the whole system leaves declared
declared-whole : (S : State) (e : Event) → (whole e S).declared ≡ declared_by e S.declared
declared-whole S (Session n text) = refl
declared-whole S (Turn z) = refl
declared-whole S (Call_of z pid c) = refl
declared-whole S (System what) = refl
declared-whole S Restart = refl

-- the reply to an event of the whole system and what it leaves declared are functions of what was declared
pub declared-decides : (S T : State) (e : Event) (g : Grant) → subject S e ≡ Whole → subject T e ≡ Whole → S.declared ≡ T.declared
    → ((one S e g).reply ≡ (one T e g).reply) × ((one S e g).state.declared ≡ (one T e g).state.declared)
unfolding one
declared-decides S T e g is it d = rw (is, it) (ap (declare_reply e) d, declared-whole S e ∙ (ap (declared_by e) d ∙ sym (declared-whole T e)))

pub declared-after : (S : State) (e : Event) (g : Grant) → is_whole (subject S e) ≡ true → (one S e g).state.declared ≡ declared_by e S.declared
unfolding one
declared-after S e g h = at_subject (subject S e) refl h
  where
    at_subject : (s : Subject) → subject S e ≡ s → is_whole s ≡ true → (one S e g).state.declared ≡ declared_by e S.declared
    at_subject Whole is h = rw is (declared-whole S e)
    at_subject (Zone z) is h = absurd (false≢true h)
    at_subject Global is h = absurd (false≢true h)

-- other events leave it
came-declared : (z : Name) (a : Option Arrival) (c : Common) → (came_common z a c).declared ≡ c.declared
came-declared z None c = refl
came-declared z (Some (New_process p)) c = refl
came-declared z (Some (New_id i)) c = refl
came-declared z (Some (New_claim k)) c = refl
came-declared z (Some (New_record row)) c = refl
came-declared z (Some No_new_thing) c = refl

pub declared-stays : (S : State) (e : Event) (g : Grant) → is_whole (subject S e) ≡ false → (one S e g).state.declared ≡ S.declared
unfolding one
declared-stays S e g h = at_subject (subject S e) refl h
  where
    at_subject : (s : Subject) → subject S e ≡ s → is_whole s ≡ false → (one S e g).state.declared ≡ S.declared
    at_subject (Zone z) is h = ap (λ (c : Common). c.declared) (common-one z S e g is) ∙ came-declared z _ _
    at_subject Global is h = rw is refl
    at_subject Whole is h = absurd (true≢false h)

-- a step of two states where the same is declared
is-whole : (s : Subject) → is_whole s ≡ true → s ≡ Whole
is-whole Whole h = refl
is-whole (Zone z) h = absurd (false≢true h)
is-whole Global h = absurd (false≢true h)

module _ (S T : State) (e : Event) (g : Grant) (d : S.declared ≡ T.declared) where
  whole-same : is_whole (subject S e) ≡ is_whole (subject T e)
  whole-same = whole-is S e ∙ sym (whole-is T e)

  both : is_whole (subject S e) ≡ true → ((one S e g).reply ≡ (one T e g).reply) × ((one S e g).state.declared ≡ (one T e g).state.declared)
  both h = declared-decides S T e g (is-whole _ h) (is-whole _ (sym whole-same ∙ h)) d

  declared-step : (one S e g).state.declared ≡ (one T e g).state.declared
  declared-step = at_test (is_whole (subject S e)) refl
    where
      at_test : (b : Bool) → is_whole (subject S e) ≡ b → (one S e g).state.declared ≡ (one T e g).state.declared
      at_test true h = (both h).1
      at_test false h = declared-stays S e g h ∙ (d ∙ sym (declared-stays T e g (sym whole-same ∙ h)))

not_whole : (z : Name) (s : Subject) → concerns z s ≡ false → is_whole s ≡ false
not_whole z (Zone y) h = refl
not_whole z Global h = refl
not_whole z Whole h = absurd (true≢false h)

-- removing the entries of all zones, or of all but one, changes no reply of the whole system
pub purge-whole : (z : Name) (es : List (Event × Grant)) (S T : State) → S.declared ≡ T.declared → whole_replies (run S es) ≡ whole_replies (run T (asked (only z (run S es))))
purge-whole z [] S T d = refl
purge-whole z (e ∷ es) S T d = at_test (λ S T d. purge-whole z es S T d) (concerns z (subject S e.0)) refl
  where
    left : List Entry
    left = run (one S e.0 e.1).state es

    at_test : ((S T : State) → S.declared ≡ T.declared → whole_replies (run S es) ≡ whole_replies (run T (asked (only z (run S es)))))
        → (b : Bool) → concerns z (subject S e.0) ≡ b → whole_replies (run S (e ∷ es)) ≡ whole_replies (run T (asked (only z (run S (e ∷ es)))))
    at_test ih true h =
        let more = ih (one S e.0 e.1).state (one T e.0 e.1).state (declared-step S T e.0 e.1 d) in
        rw h (told-step is_whole (entry_at S e.0 e.1) (entry_at T e.0 e.1) left (run (one T e.0 e.1).state (asked (only z left))) (whole-same S T e.0 e.1 d) (λ w. (both S T e.0 e.1 d w).0) more)
    at_test ih false h =
        let w = not_whole z (subject S e.0) h in
        rw h (told-skip is_whole (entry_at S e.0 e.1) left w ∙ ih (one S e.0 e.1).state T (declared-stays S e.0 e.1 w ∙ d))
