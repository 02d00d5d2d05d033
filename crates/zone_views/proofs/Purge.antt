-- Histories, as one zone sees them. Nothing here opens a case of the machine.
use Rattle.std.proofs.Common.{◌≡◌, ◌∷◌, [], ◌&&◌, ℕ, List, Bool, true, false, Option, Some, None, map, ap, refl, subst, sym, ◌∙◌}
use Rattle.std.specs.Prelude.{◌≢◌, bytes_eq, filter, if◌then◌else◌}
use Rattle.std.specs.List.{list_all, list_any}
use Rattle.std.proofs.lemmas.Bool.{and_parts, false≢true}
use Rattle.kernel_objects.specs.Processes.{Process, has_pid}
use Rattle.zone_pools.proofs.Holding.{not_same}
use Rattle.zone_pools.proofs.Owned_laws.{other_tag, same_self, same_true}
use Rattle.zone_pools.specs.Firsts.{first_of}
use Rattle.zone_pools.specs.Owned_lists.{mine}
use Rattle.zone_pools.specs.declared.owned.Owned.{Owned}
use Rattle.zn_base.specs.Names.{Name}
use Rattle.zone_pools.specs.declared.grant.Grant.{Grant}
use Rattle.zone_machine.proofs.Acts_laws.{IsOwn}
use Rattle.zone_machine.proofs.Common_laws.{has_it, holder-one}
use Rattle.zone_machine.proofs.Own_worlds.{leaves, reply-world, world-one, world_by-other}
use Rattle.zone_machine.proofs.Same_laws.{reply-Decides, subject-Decides}
use Rattle.zoneadmd_steps.specs.Desks.{empty_desk}
use Rattle.zone_machine.specs.Machine.Histories.{after, after_entry, any_grant, asked, concerns, entry_at, is_history, is_of, is_told, only, replay, replies, run, world_by, world_one}
use Rattle.zone_cases.specs.Session.Lines.{Command, Kill, Line, line_of}
use Rattle.zone_machine.specs.Machine.{holder, line_subject, one, opening, session_subject, subject, whole_world}
use Rattle.zone_machine.specs.Machine.Same.{same_reply, same_subject}
use Rattle.zone_cases.specs.State.{At, Idle, Session as Session_mode, State, stored}
use Rattle.zone_cases.specs.State.Declarations.{none_declared}
use Rattle.console_link.specs.Consoles.{new_console}
use Rattle.zone_cases.specs.State.Worlds.{World, doing, world}
use Rattle.zone_cases.specs.declared.events.Entry.{Entry}
use Rattle.zone_cases.specs.declared.events.Event.{Event}
use Rattle.zone_cases.specs.declared.events.Event.TheVariants.{Process as Call_of, Restart, Session, System, Turn}
use Rattle.zone_cases.specs.declared.events.Subject.{Subject}
use Rattle.zone_cases.specs.declared.events.Subject.TheVariants.{Zone, Global, Whole}
use Rattle.zone_cases.specs.declared.replies.Reply.{Reply}
use Rattle.brand_hooks.specs.Brands.{Tabled}
use Rattle.commit_journal.specs.declared.records.Commit.{Commit}
use Rattle.commit_journal.specs.declared.records.Record.{Record}

-- a state that entries of z and of the whole system alone have reached: no other zone has a session, a process, an id or a
-- claim. The processes count because a signal's zone is looked for among all of them, and with the ids and the claims because of
-- what the pools may give
pub record IsBare (w : World) : Type 0 where
  pub sessions : (n : ℕ) → w.sessions n ≡ None
  pub processes : w.processes ≡ []
  pub ids : w.ids ≡ []
  pub claims : w.claims ≡ []

abbrev pub IsPurged : Name → State → Type 0
IsPurged z S = (y : Name) → y ≢ z → IsBare (world y S)

pub IsPurged-opening : (z : Name) (brands : List Tabled) (commits : List Commit) → IsPurged z (opening brands commits)
IsPurged-opening z brands commits y other = record { sessions = λ n. refl; processes = refl; ids = refl; claims = refl }

-- an event of the whole system adds none
IsBare-whole : (w : World) (e : Event) → IsBare w → IsBare (whole_world e w)
IsBare-whole w (Session n text) h = record { sessions = h.sessions; processes = h.processes; ids = h.ids; claims = h.claims }
IsBare-whole w (Turn z) h = record { sessions = h.sessions; processes = h.processes; ids = h.ids; claims = h.claims }
IsBare-whole w (Call_of z pid c) h = record { sessions = h.sessions; processes = h.processes; ids = h.ids; claims = h.claims }
IsBare-whole w (System what) h = record { sessions = h.sessions; processes = h.processes; ids = h.ids; claims = h.claims }
IsBare-whole w Restart h = record { sessions = λ n. refl; processes = refl; ids = refl; claims = refl }

IsPurged-one : (z : Name) (S : State) (e : Event) (g : Grant) → concerns z (subject S e) ≡ true → IsPurged z S → IsPurged z (one S e g).state
IsPurged-one z S e g h is y other = subst IsBare (sym (world-one y S e g)) (at_subject (subject S e) h)
  where
    at_subject : (s : Subject) → concerns z s ≡ true → IsBare (world_by s y (world y S) e g)
    at_subject (Zone x) h = rw (other_tag z y x (λ e. other (sym e)) h) (is y other)
    at_subject Global h = absurd (false≢true h)
    at_subject Whole h = IsBare-whole (world y S) e (is y other)

-- a zone that can't be another is z
zone_is : (y z : Name) → (y ≢ z → ⊥) → y ≡ z
zone_is y z h = at_test (bytes_eq z y) refl
  where
    at_test : (b : Bool) → bytes_eq z y ≡ b → y ≡ z
    at_test true e = sym (same_true z y e)
    at_test false e = absurd (h (not_same z y e))

-- each session is idle or z's
pub own_session : (z : Name) (S : State) (n : ℕ) → IsPurged z S → IsOwn z (S.sessions n)
own_session z S n is = at_session (S.sessions n) (λ y other. (is y other).sessions n)
  where
    at_session : (s : Session_mode) → ((y : Name) → y ≢ z → doing y s ≡ None) → IsOwn z s
    at_session Idle away = tt
    at_session (At y d) away = zone_is y z (λ other. let shown = away y other in let some : Some d ≡ None = simp (same_self y) at shown in cc)

-- a signal goes to the zone that has the process
module _ (z : Name) (pid : ℕ) where
  abbrev holder_in : List (Owned Process) → Subject
  holder_in os = holder (first_of (filter (λ o. has_pid pid o.it) os))

  concerned-has : (os : List (Owned Process)) → concerns z (holder_in os) ≡ true → has_it pid z os ≡ true
  concerned-has [] h = absurd (false≢true h)
  concerned-has (o ∷ os) h = at_tests (concerned-has os) (bytes_eq z o.zone) (has_pid pid o.it) refl refl
    where
      at_tests : (concerns z (holder_in os) ≡ true → has_it pid z os ≡ true) → (b q : Bool) → bytes_eq z o.zone ≡ b → has_pid pid o.it ≡ q → has_it pid z (o ∷ os) ≡ true
      at_tests ih true true e f = simp (e, f)
      at_tests ih true false e f = simp (e, f, ih (simp f at h))
      at_tests ih false true e f = let t : bytes_eq z o.zone ≡ true = simp f at h in absurd (false≢true (sym e ∙ t))
      at_tests ih false false e f = simp (e, ih (simp f at h))

  only_own : (S : State) → IsPurged z S → (y : Name) → has_it pid y S.processes ≡ true → y ≡ z
  only_own S is y has = zone_is y z (λ other. false≢true (sym (ap (list_any (has_pid pid)) (is y other).processes) ∙ has))

  same_holder : (S T : State) → mine z S.processes ≡ mine z T.processes → IsPurged z T → concerns z (holder_in S.processes) ≡ true → holder_in T.processes ≡ holder_in S.processes
  same_holder S T same is h =
      let has : has_it pid z T.processes ≡ true = ap (list_any (has_pid pid)) (sym same) ∙ concerned-has S.processes h in
      holder-one pid T.processes z has (only_own T is) ∙ sym (at_holder _ h)
    where
      at_holder : (o : Option (Owned Process)) → concerns z (holder o) ≡ true → holder o ≡ Zone z
      at_holder (Some o) h = ap Zone (sym (same_true z o.zone h))
      at_holder None h = absurd (false≢true h)

-- two states agree on z, and the second was reached by entries that concern z
pub record Agree (z : Name) (S T : State) : Type 0 where
  pub world : world z S ≡ world z T
  pub purged : IsPurged z T

-- a session of the second that z's world doesn't show is idle
pub away_is_idle : (z : Name) (s : Session_mode) → IsOwn z s → doing z s ≡ None → s ≡ Idle
away_is_idle z Idle own away = refl
away_is_idle z (At y x) own away = let e : bytes_eq z y ≡ true = subst (λ w. bytes_eq z w ≡ true) (sym own) (same_self z) in let none : Some x ≡ None = simp e at away in cc

-- they give each event that concerns z the same subject
pub subjects : (z : Name) (S T : State) (e : Event) → Agree z S T → concerns z (subject S e) ≡ true → subject T e ≡ subject S e
unfolding subject
subjects z S T (Session n text) a h = at_sessions (S.sessions n) (T.sessions n) (ap (λ w. w.sessions n) a.world) (own_session z T n a.purged) h
  where
    line : Line
    line = line_of text

    at_command : (c : Command) → concerns z (line_subject line.zone S.processes c) ≡ true → line_subject line.zone T.processes c ≡ line_subject line.zone S.processes c
    at_command (Kill signal pid) h = same_holder z pid S T (ap (λ w. w.processes) a.world) a.purged h
    at_command _ h = refl

    at_sessions : (s t : Session_mode) → doing z s ≡ doing z t → IsOwn z t → concerns z (session_subject line S.processes s) ≡ true → session_subject line T.processes t ≡ session_subject line S.processes s
    at_sessions Idle Idle d own h = at_command line.command h
    at_sessions Idle (At y x) d own h = let e : bytes_eq z y ≡ true = subst (λ w. bytes_eq z w ≡ true) (sym own) (same_self z) in let none : None ≡ Some x = simp e at d in cc
    at_sessions (At y x) Idle d own h = let none : Some x ≡ None = simp h at d in cc
    at_sessions (At y x) (At y' x') d own h = ap Zone (own ∙ same_true z y h)
subjects z S T (Call_of y pid c) a h = refl
subjects z S T (Turn y) a h = refl
subjects z S T (System what) a h = refl
subjects z S T Restart a h = refl

-- a step of both
pub kept_step : (z : Name) (S T : State) (e : Event) (g : Grant) → Agree z S T → concerns z (subject S e) ≡ true
    → Agree z (one S e g).state (one T e g).state × (is_of z (subject S e) ≡ true → (one S e g).reply ≡ (one T e g).reply)
kept_step z S T e g a h = (record { world = worlds; purged = purged }, at_subject (subject S e) refl)
  where
    same : subject T e ≡ subject S e
    same = subjects z S T e a h

    purged : IsPurged z (one T e g).state
    purged = IsPurged-one z T e g (subst (λ s. concerns z s ≡ true) (sym same) h) a.purged

    worlds : world z (one S e g).state ≡ world z (one T e g).state
    worlds = world-one z S e g ∙ (ap (λ w. world_by (subject S e) z w e g) a.world ∙ (ap (λ s. world_by s z (world z T) e g) (sym same) ∙ sym (world-one z T e g)))

    at_subject : (s : Subject) → subject S e ≡ s → is_of z s ≡ true → (one S e g).reply ≡ (one T e g).reply
    at_subject (Zone y) is h = let mine : subject S e ≡ Zone z = is ∙ ap Zone (sym (same_true z y h)) in reply-world z S T e g mine (same ∙ mine) a.world
    at_subject Global is h = absurd (false≢true h)
    at_subject Whole is h = absurd (false≢true h)

-- the replies of entries with certain subjects, at the first entry: it is another's, or it has the reply of an entry of another
-- history, and the replies agree from there on
module _ (p : Subject → Bool) where
  abbrev told : List Entry → List Reply
  told h = map (λ e. e.reply) (filter (λ e. p e.subject) h)

  told-first : (e : Entry) (h : List Entry) → told (e ∷ h) ≡ (if p e.subject then e.reply ∷ told h else told h)
  told-first e h = at_test (p e.subject)
    where
      at_test : (b : Bool) → map (λ e. e.reply) (if b then e ∷ filter (λ e. p e.subject) h else filter (λ e. p e.subject) h) ≡ (if b then e.reply ∷ told h else told h)
      at_test true = refl
      at_test false = refl

  pub told-skip : (e : Entry) (h : List Entry) → p e.subject ≡ false → told (e ∷ h) ≡ told h
  told-skip e h is = rw is refl

  pub told-step : (e f : Entry) (h k : List Entry) → p e.subject ≡ p f.subject → (p e.subject ≡ true → e.reply ≡ f.reply) → told h ≡ told k → told (e ∷ h) ≡ told (f ∷ k)
  told-step e f h k same reply more = told-first e h ∙ (at_test (p e.subject) refl ∙ (ap (λ b. if b then f.reply ∷ told k else told k) same ∙ sym (told-first f k)))
    where
      at_test : (b : Bool) → p e.subject ≡ b → (if b then e.reply ∷ told h else told h) ≡ (if b then f.reply ∷ told k else told k)
      at_test true is = λ i. reply is i ∷ more i
      at_test false is = more

not_of : (z : Name) (s : Subject) → concerns z s ≡ false → is_of z s ≡ false
not_of z (Zone y) h = h
not_of z Global h = refl
not_of z Whole h = refl

-- removing the entries of all other zones changes no reply of z
pub purge : (z : Name) (es : List (Event × Grant)) (S T : State) → Agree z S T → replies z (run S es) ≡ replies z (run T (asked (only z (run S es))))
purge z [] S T a = refl
purge z (e ∷ es) S T a = at_test (λ S T a. purge z es S T a) _ refl
  where
    at_test : ((S T : State) → Agree z S T → replies z (run S es) ≡ replies z (run T (asked (only z (run S es)))))
        → (b : Bool) → concerns z (subject S e.0) ≡ b → replies z (run S (e ∷ es)) ≡ replies z (run T (asked (only z (run S (e ∷ es)))))
    at_test ih true h =
        let both = kept_step z S T e.0 e.1 a h in
        let left : List Entry = run (one S e.0 e.1).state es in
        let same = ap (is_of z) (sym (subjects z S T e.0 a h)) in
        rw h (told-step (is_of z) (entry_at S e.0 e.1) (entry_at T e.0 e.1) left (run (one T e.0 e.1).state (asked (only z left))) same both.1 (ih (one S e.0 e.1).state (one T e.0 e.1).state both.0))
    at_test ih false h =
        let left : List Entry = run (one S e.0 e.1).state es in
        let agree : Agree z (one S e.0 e.1).state T = record { world = leaves z S e.0 e.1 h ∙ a.world; purged = a.purged } in
        rw h (told-skip (is_of z) (entry_at S e.0 e.1) left (not_of z (subject S e.0) h) ∙ ih (one S e.0 e.1).state T agree)

-- the openings of two stores that hold the same of z
pub opening-agree : (z : Name) (brands : List Tabled) (commits others : List Commit) → stored z commits ≡ stored z others → Agree z (opening brands commits) (opening brands others)
opening-agree z brands commits others h = record {
  world = let f : Option Record → World = λ row. record { processes = []; mounts = []; claims = []; devices = []; ids = []; stored = row; desk = empty_desk; console = new_console; sessions = λ n. None; declared = none_declared; brands = brands } in ap f h;
  purged = IsPurged-opening z brands others;
}

-- a history is the run of its own events
pub told_entry : (S : State) (e : Entry) → is_told S e ≡ true → entry_at S e.event e.grant ≡ e
told_entry S e h =
    let parts = and_parts (same_subject e.subject (subject S e.event)) (same_reply e.reply (one S e.event e.grant).reply) h in
    let subject : subject S e.event ≡ e.subject = sym ((subject-Decides e.subject (subject S e.event)).0 parts.0) in
    let reply : (one S e.event e.grant).reply ≡ e.reply = sym ((reply-Decides e.reply (one S e.event e.grant).reply).0 parts.1) in
    λ i. record { event = e.event; subject = subject i; grant = e.grant; reply = reply i }

-- the three parts of a history that begins with an entry
pub record Begins (permits : State → Event → Grant → Bool) (S : State) (e : Entry) (h : List Entry) : Type 0 where
  pub told : is_told S e ≡ true
  pub permitted : permits S e.event e.grant ≡ true
  pub rest : is_history permits (after_entry S e) h ≡ true

pub begins : (permits : State → Event → Grant → Bool) (S : State) (e : Entry) (h : List Entry) → is_history permits S (e ∷ h) ≡ true → Begins permits S e h
begins permits S e h is =
    let outer = and_parts (is_told S e && permits S e.event e.grant) (is_history permits (after_entry S e) h) is in
    let inner = and_parts (is_told S e) (permits S e.event e.grant) outer.0 in
    record { told = inner.0; permitted = inner.1; rest = outer.1 }

pub run-asked : (permits : State → Event → Grant → Bool) (S : State) (h : List Entry) → is_history permits S h ≡ true → run S (asked h) ≡ h
run-asked permits S [] is = refl
run-asked permits S (e ∷ h) is =
    let parts = begins permits S e h is in
    let first : entry_at S e.event e.grant ≡ e = told_entry S e parts.told in
    let more : run (after_entry S e) (asked h) ≡ h = run-asked permits (after_entry S e) h parts.rest in
    λ i. first i ∷ more i

-- a state that a history left, whose entries all concern z
pub IsPurged-after : (z : Name) (S : State) (h : List Entry) → is_history any_grant S h ≡ true → list_all (λ entry. concerns z entry.subject) h ≡ true → IsPurged z S → IsPurged z (after S h)
IsPurged-after z S [] is all p = p
IsPurged-after z S (e ∷ h) is all p =
    let parts = begins any_grant S e h is in
    let both = and_parts (concerns z e.subject) (list_all (λ entry. concerns z entry.subject) h) all in
    let same : e.subject ≡ subject S e.event = sym (ap (λ e. e.subject) (told_entry S e parts.told)) in
    IsPurged-after z (after_entry S e) h parts.rest both.1 (IsPurged-one z S e.event e.grant (subst (λ s. concerns z s ≡ true) same both.0) p)

-- a zone's world after a history is a replay of its own entries
pub world-after : (z : Name) (permits : State → Event → Grant → Bool) (S : State) (h : List Entry) → is_history permits S h ≡ true → world z (after S h) ≡ replay z (world z S) (only z h)
world-after z permits S [] is = refl
world-after z permits S (e ∷ h) is = world-after z permits (after_entry S e) h parts.rest ∙ at_test _ refl
  where
    parts : Begins permits S e h
    parts = begins permits S e h is

    one_more : world z (after_entry S e) ≡ world_one z (world z S) e
    one_more = world-one z S e.event e.grant ∙ ap (λ f. world_one z (world z S) f) (told_entry S e parts.told)

    at_test : (b : Bool) → concerns z e.subject ≡ b → replay z (world z (after_entry S e)) (only z h) ≡ replay z (world z S) (only z (e ∷ h))
    at_test true c = rw c (ap (λ w. replay z w (only z h)) one_more)
    at_test false c = rw c (ap (λ w. replay z w (only z h)) (one_more ∙ world_by-other z e.subject (world z S) e.event e.grant c))
