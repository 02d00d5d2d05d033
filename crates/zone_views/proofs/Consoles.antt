-- A zone's console is held by the session that is at it, after any history.
use Rattle.std.proofs.Common.{◌≡◌, ◌+◌, ◌∙◌, ℕ, List, Bool, Option, Some, None, true, false, ap, nat_eq, refl, subst, sym}
use Rattle.std.specs.Prelude.{bytes_eq, if◌then◌else◌}
use Rattle.std.proofs.lemmas.Bool.{eq-eqb, eqb-true, false≢true}
use Rattle.zn_base.specs.Names.{Name}
use Rattle.brand_hooks.specs.Brands.{Tabled}
use Rattle.commit_journal.specs.declared.records.Commit.{Commit}
use Rattle.commit_journal.specs.declared.records.Record.{Record}
use Rattle.zone_pools.proofs.Owned_laws.{same_true}
use Rattle.zone_pools.specs.declared.grant.Grant.{Grant}
use Rattle.zoneadmd_steps.specs.Arrivals.{Arrival, New_record}
use Rattle.zoneadmd_steps.specs.Objects.{Object_edit, Process_goes, Processes_go}
use Rattle.zone_cases.specs.State.{At, At_console, Awaiting, Doing, Editing, Idle, Logged_in, Session}
use Rattle.zone_cases.specs.State.Decisions.{act_of, acts_world, after_came_world, ticket_ended}
use Rattle.zone_cases.specs.State.Edits.{Edit, Of_objects, at_session, comes_world, console_gone_world, console_left, edit_world, edits_world, keeps_console, login_ended, logins_ended, swept_doing}
use Rattle.zone_cases.specs.State.Worlds.{World, doing, view_of, world}
use Rattle.zone_cases.specs.Session.Commits.{committed_record}
use Rattle.zone_cases.specs.declared.events.Entry.{Entry}
use Rattle.zone_cases.specs.declared.events.Event.{Event}
use Rattle.zone_machine.proofs.Turned_laws.{turn_act}
use Rattle.zone_machine.specs.Machine.{decide, opening, session_number}
use Rattle.zone_machine.specs.Machine.Histories.{after}
use Rattle.zone_views.proofs.Deciding.{Attaches, Called, Calls, Comes, Consoled, Consoles, Detaches, Does, Drops, Edits, Enters, Forks, Goes, Is_seated, Leaves_off, Opens, Puts, Records, Remounts, Removes, Renames, Says, Seat, Seated, Stores, Takes, Tells, Unseated, Writes, kept_turn, of_any}
use Rattle.zone_views.proofs.Keeping.{doing_at, kept-after}

-- who is at the console, and who has it
abbrev is_there : Option Doing → Bool
is_there None = false
is_there (Some (Awaiting t)) = false
is_there (Some (Editing e)) = false
is_there (Some (Logged_in pid escape)) = false
is_there (Some (At_console escape)) = true

abbrev has_it : ℕ → Option ℕ → Bool
has_it k None = false
has_it k (Some n) = nat_eq n k

abbrev Held : World → Type 0
Held w = (k : ℕ) → is_there (w.sessions k) ≡ has_it k w.console.holder

its_holder : (k : ℕ) (o : Option ℕ) → has_it k o ≡ true → o ≡ Some k
its_holder k None h = absurd (false≢true h)
its_holder k (Some n) h = ap Some (eqb-true n k h)

-- a ticket or a login that ends leaves who is there
stays : (b : Bool) (d : Doing) → is_there (Some d) ≡ false → is_there (if b then None else Some d) ≡ false
stays true d h = refl
stays false d h = h

ticket_stays : (t : ℕ) (o : Option Doing) → is_there (swept_doing (ticket_ended t) o) ≡ is_there o
ticket_stays t None = refl
ticket_stays t (Some (Awaiting u)) = stays (nat_eq t u) (Awaiting u) refl
ticket_stays t (Some (Editing e)) = refl
ticket_stays t (Some (Logged_in pid escape)) = refl
ticket_stays t (Some (At_console escape)) = refl

login_stays : (pid : ℕ) (o : Option Doing) → is_there (swept_doing (login_ended pid) o) ≡ is_there o
login_stays pid None = refl
login_stays pid (Some (Awaiting u)) = refl
login_stays pid (Some (Editing e)) = refl
login_stays pid (Some (Logged_in p escape)) = stays (nat_eq pid p) (Logged_in p escape) refl
login_stays pid (Some (At_console escape)) = refl

logins_stay : (o : Option Doing) → is_there (swept_doing logins_ended o) ≡ is_there o
logins_stay None = refl
logins_stay (Some (Awaiting u)) = refl
logins_stay (Some (Editing e)) = refl
logins_stay (Some (Logged_in pid escape)) = refl
logins_stay (Some (At_console escape)) = refl

-- nobody is at a console that is no more
nobody_there : (o : Option Doing) → is_there (swept_doing console_left o) ≡ false
nobody_there None = refl
nobody_there (Some (Awaiting u)) = refl
nobody_there (Some (Editing e)) = refl
nobody_there (Some (Logged_in pid escape)) = refl
nobody_there (Some (At_console escape)) = refl

gone_held : (keeps : Bool) (w : World) → Held w → Held (console_gone_world keeps w)
gone_held true w h = h
gone_held false w h = λ k. nobody_there (w.sessions k)

-- what a turn does
objects_held : (e : Object_edit) (w : World) → Held w → Held (edit_world None (Of_objects e) w)
objects_held (Processes_go p) w h = λ k. logins_stay (w.sessions k) ∙ h k
objects_held (Process_goes pid) w h = λ k. login_stays pid (w.sessions k) ∙ h k
objects_held e w h = h

comes_held : (c : Arrival) (w : World) → Held w → Held (comes_world c w)
comes_held (New_record row) w h = gone_held (keeps_console row) (record w { stored = row }) h
comes_held c w h = h

-- the session k, which is away from the console, does something else that is
here_held : (k : ℕ) (d : Option Doing) (w : World) → is_there d ≡ false → is_there (w.sessions k) ≡ false → Held w → Held (record w { sessions = λ j. at_session (Some k) j d (w.sessions j) })
here_held k d w away was h j = at_here (nat_eq k j) refl
  where
    at_here : (b : Bool) → nat_eq k j ≡ b → is_there (if b then d else w.sessions j) ≡ has_it j w.console.holder
    at_here true e = away ∙ (sym (subst (λ i. is_there (w.sessions i) ≡ false) (eqb-true k j e) was) ∙ h j)
    at_here false e = h j

-- any other event
module _ (z : Name) (w : World) (h : Held w) where
  idle_away : (k : ℕ) → w.sessions k ≡ None → is_there (w.sessions k) ≡ false
  idle_away k idle = ap is_there idle

  seat_away : (k : ℕ) (d : Option Doing) → Seat z w k d → (is_there d ≡ false) × (is_there (w.sessions k) ≡ false)
  seat_away k _ (Opens base is idle) = (refl, idle_away k idle)
  seat_away k _ (Leaves_off e there) = (refl, ap is_there there)
  seat_away k _ (Says e text there) = (refl, ap is_there there)
  seat_away k _ (Stores e text config m there ends shown) = (refl, ap is_there there)

  seated_held : (k : ℕ) (es : List Edit) → Seated z w k es → (v : World) → (is_there (w.sessions k) ≡ false → is_there (v.sessions k) ≡ false) → Held v → Held (edits_world (Some k) es v)
  seated_held k _ Unseated v away is = is
  seated_held k _ (Is_seated d s) v away is = let a = seat_away k d s in here_held k d v a.0 (away a.1) is

  called_held : (n : Option ℕ) (c : Option Arrival) (es : List Edit) → Called w n c es → Held (edits_world n es (after_came_world c w))
  called_held _ _ _ (Forks n parent pid p name is) = h
  called_held _ _ _ (Enters k pid name escape running idle) = here_held k (Some (Logged_in pid escape)) w refl (idle_away k idle) h
  called_held _ _ _ (Comes k pid name running) = h
  called_held _ _ _ (Goes n pid) = objects_held (Process_goes pid) w h
  called_held _ _ _ (Renames n pid name) = h
  called_held _ _ _ (Drops n pid number) = h

  consoled_held : (n : Option ℕ) (es : List Edit) → Consoled w n es → Held (edits_world n es w)
  consoled_held _ _ (Writes n text) = h
  consoled_held _ _ (Takes n) = h
  consoled_held _ _ (Attaches k escape idle free) = λ j. at_here j (nat_eq k j)
    where
      at_here : (j : ℕ) (b : Bool) → is_there (if b then Some (At_console escape) else w.sessions j) ≡ b
      at_here j true = refl
      at_here j false = h j ∙ ap (has_it j) free
  consoled_held _ _ (Detaches k escape there) = λ j. at_here j (nat_eq k j) refl
    where
      its : w.console.holder ≡ Some k
      its = its_holder k w.console.holder (sym (h k) ∙ ap is_there there)

      at_here : (j : ℕ) (b : Bool) → nat_eq k j ≡ b → is_there (if b then None else w.sessions j) ≡ false
      at_here j true e = refl
      at_here j false e = h j ∙ (ap (has_it j) its ∙ e)

  does_held : (n : Option ℕ) (c : Option Arrival) (es : List Edit) → Does z w n c es → Held (edits_world n es (after_came_world c w))
  does_held _ _ _ (Tells n) = h
  does_held _ _ _ (Edits k es s) = seated_held k es s w (λ a. a) h
  does_held _ _ _ (Records k stored config m es is says s) = let row = Some (committed_record z stored config m) in at_keeps row (keeps_console row)
    where
      at_keeps : (row : Option Record) (keeps : Bool) → Held (edits_world (Some k) es (console_gone_world keeps (record w { stored = row })))
      at_keeps row true = seated_held k es s (record w { stored = row }) (λ a. a) h
      at_keeps row false = seated_held k es s (console_gone_world false (record w { stored = row })) (λ a. nobody_there (w.sessions k)) (gone_held false (record w { stored = row }) h)
  does_held _ _ _ (Removes k row es is c r s) = seated_held k es s (console_gone_world false (record w { stored = None })) (λ a. nobody_there (w.sessions k)) (gone_held false (record w { stored = None }) h)
  does_held _ _ _ (Puts k r row is idle room) = here_held k (Some (Awaiting (w.desk.last + 1))) w refl (idle_away k idle) h
  does_held _ _ _ (Calls n c es called) = called_held n c es called
  does_held _ _ _ (Remounts n e mounted) = h
  does_held _ _ _ (Consoles n es consoled) = consoled_held n es consoled

held-event : (z : Name) (w : World) (e : Event) (g : Grant) → Held w → Held (acts_world (session_number e) (act_of (decide (view_of z w) e) g) w)
held-event z w e g h =
    of_any z w Held (λ v is. does_held z v is) h g (kept_turn Held objects_held (λ d w h. h) (λ t w h k. ticket_stays t (w.sessions k) ∙ h k) comes_held (turn_act w g) w h) e

held : (z : Name) (brands : List Tabled) (commits : List Commit) (h : List Entry) → Held (world z (after (opening brands commits) h))
held z brands commits h = kept-after Held held-event (λ w d h. h) (λ w h n. refl) (opening brands commits) h (λ z n. refl) z

-- a session that is there from z is at z's console
at_z : (z : Name) (s : Session) → is_there (doing z s) ≡ true → (escape : Option ℕ) × (s ≡ At z (At_console escape))
at_z z Idle h = absurd (false≢true h)
at_z z (At y d) h = at_zone (bytes_eq z y) refl h
  where
    at_doing : (d : Doing) → z ≡ y → is_there (Some d) ≡ true → (escape : Option ℕ) × (At y d ≡ At z (At_console escape))
    at_doing (At_console escape) same h = (escape, ap (λ x. At x (At_console escape)) (sym same))
    at_doing (Awaiting t) same h = absurd (false≢true h)
    at_doing (Editing e) same h = absurd (false≢true h)
    at_doing (Logged_in pid escape) same h = absurd (false≢true h)

    at_zone : (b : Bool) → bytes_eq z y ≡ b → is_there (if b then Some d else None) ≡ true → (escape : Option ℕ) × (At y d ≡ At z (At_console escape))
    at_zone true e h = at_doing d (same_true z y e) h
    at_zone false e h = absurd (false≢true h)

pub holder-history : (z : Name) (brands : List Tabled) (commits : List Commit) (h : List Entry) (n : ℕ)
    → (let S = after (opening brands commits) h in (S.consoles z).holder ≡ Some n → (escape : Option ℕ) × (S.sessions n ≡ At z (At_console escape)))
holder-history z brands commits h n is =
    let S = after (opening brands commits) h in at_z z (S.sessions n) (held z brands commits h n ∙ (ap (has_it n) is ∙ eq-eqb n n refl))

pub held-history : (z : Name) (brands : List Tabled) (commits : List Commit) (h : List Entry) (n : ℕ) (escape : Option ℕ)
    → (let S = after (opening brands commits) h in S.sessions n ≡ At z (At_console escape) → (S.consoles z).holder ≡ Some n)
held-history z brands commits h n escape is =
    let S = after (opening brands commits) h in
    its_holder n (S.consoles z).holder (sym (held z brands commits h n) ∙ ap is_there (ap (doing z) is ∙ doing_at z (At_console escape)))
