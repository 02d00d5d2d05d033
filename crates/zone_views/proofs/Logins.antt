-- Each session that is logged in has its process, after any history.
use Rattle.std.proofs.Common.{◌≡◌, ◌||◌, ◌+◌, ◌∷◌, [], ◌∙◌, ℕ, List, Bool, Option, Some, None, true, false, ap, map, nat_eq, refl, subst}
use Rattle.std.specs.Prelude.{is_some, if◌then◌else◌}
use Rattle.std.specs.List.{list_any}
use Rattle.std.proofs.lemmas.Bool.{eq-eqb, false≢true}
use Rattle.zn_base.specs.Names.{Name}
use Rattle.brand_hooks.specs.Brands.{Tabled}
use Rattle.commit_journal.specs.declared.records.Commit.{Commit}
use Rattle.kernel_objects.proofs.Kept.{holds-change, holds-put, holds-without}
use Rattle.kernel_objects.specs.Kernel.{entered, forked}
use Rattle.kernel_objects.specs.Processes.{Process, at_pid, below, dropping, has_pid, renamed, with_pid, without_pid}
use Rattle.zone_pools.specs.Owned_lists.{Go, edited, put}
use Rattle.zone_pools.specs.declared.grant.Grant.{Grant}
use Rattle.zoneadmd_steps.specs.Arrivals.{Arrival, New_process, New_record}
use Rattle.zoneadmd_steps.specs.Objects.{Object_edit, Process_goes, Processes_change, Processes_go, keeping_pid, kernel_of}
use Rattle.zone_cases.specs.State.{At, At_console, Awaiting, Doing, Editing, Logged_in}
use Rattle.zone_cases.specs.State.Decisions.{act_of, acts_world, after_came_world, ticket_ended}
use Rattle.zone_cases.specs.State.Edits.{Edit, Of_objects, comes_world, console_gone_world, edit_world, edits_world, keeps_console, login_ended, logins_ended, swept_doing}
use Rattle.zone_cases.specs.State.Worlds.{World, doing, objects_of, view_of, world}
use Rattle.zone_cases.specs.Session.Commits.{committed_record}
use Rattle.zone_cases.specs.declared.events.Entry.{Entry}
use Rattle.zone_cases.specs.declared.events.Event.{Event}
use Rattle.zone_machine.proofs.Turned_laws.{turn_act}
use Rattle.zone_machine.specs.Machine.{decide, opening, session_number}
use Rattle.zone_machine.specs.Machine.Histories.{after}
use Rattle.zone_views.proofs.Deciding.{Attaches, Called, Calls, Comes, Consoled, Consoles, Detaches, Does, Drops, Edits, Enters, Forks, Goes, Is_seated, Leaves_off, Opens, Puts, Records, Remounts, Removes, Renames, Says, Seat, Seated, Stores, Takes, Tells, Unseated, Writes, kept_turn, of_any}
use Rattle.zone_views.proofs.Keeping.{doing_at, kept-after}
use Rattle.zone_views.proofs.Seating.{kept-gone, kept-here, kept-sweep, ticket-ends}

-- a session's process is among these, where it is logged in
abbrev HasLogin : List Process → Option Doing → Type 0
HasLogin ps None = Unit {0}
HasLogin ps (Some (Awaiting t)) = Unit {0}
HasLogin ps (Some (Editing e)) = Unit {0}
HasLogin ps (Some (Logged_in pid escape)) = list_any (has_pid pid) ps ≡ true
HasLogin ps (Some (At_console escape)) = Unit {0}

abbrev HaveLogins : World → Type 0
HaveLogins w = (k : ℕ) → HasLogin w.processes (w.sessions k)

-- so it is among others that have all these numbers
among : (ps qs : List Process) → ((n : ℕ) → list_any (has_pid n) ps ≡ true → list_any (has_pid n) qs ≡ true) → (o : Option Doing) → HasLogin ps o → HasLogin qs o
among ps qs more None h = tt
among ps qs more (Some (Awaiting t)) h = tt
among ps qs more (Some (Editing e)) h = tt
among ps qs more (Some (Logged_in pid escape)) h = more pid h
among ps qs more (Some (At_console escape)) h = tt

come_among : (p : Process) (ps : List Process) (o : Option Doing) → HasLogin ps o → HasLogin (put (below p.pid) p ps) o
come_among p ps o h = among ps (put (below p.pid) p ps) (λ n e. holds-put n p ps ∙ rw e (or_true (nat_eq p.pid n))) o h
  where
    or_true : (b : Bool) → (b || true) ≡ true
    or_true true = refl
    or_true false = refl

change_among : (f : Process → Process) → ((p : Process) → (f p).pid ≡ p.pid) → (ps : List Process) (o : Option Doing) → HasLogin ps o → HasLogin (map f ps) o
change_among f keeps ps o h = among ps (map f ps) (λ n e. holds-change n f keeps ps ∙ e) o h

-- a console that is no more leaves who is logged in
gone_left : (keeps : Bool) (w : World) → HaveLogins w → HaveLogins (console_gone_world keeps w)
gone_left true w h = h
gone_left false w h = kept-gone (HasLogin w.processes) tt false w h

-- a process that goes ends its login, and where all go no session is logged in
login_left : (pid : ℕ) (ps : List Process) (o : Option Doing) → HasLogin ps o → HasLogin (without_pid pid ps) (swept_doing (login_ended pid) o)
login_left pid ps None h = tt
login_left pid ps (Some (Awaiting u)) h = tt
login_left pid ps (Some (Editing e)) h = tt
login_left pid ps (Some (Logged_in p escape)) h = at_number (nat_eq pid p) refl
  where
    at_number : (b : Bool) → nat_eq pid p ≡ b → HasLogin (without_pid pid ps) (if b then None else Some (Logged_in p escape))
    at_number true e = tt
    at_number false e = holds-without p pid ps ∙ rw (h, e) refl
login_left pid ps (Some (At_console escape)) h = tt

logins_left : (ps : List Process) (o : Option Doing) → HasLogin ps (swept_doing logins_ended o)
logins_left ps None = tt
logins_left ps (Some (Awaiting u)) = tt
logins_left ps (Some (Editing e)) = tt
logins_left ps (Some (Logged_in pid escape)) = tt
logins_left ps (Some (At_console escape)) = tt

-- what a turn does
objects_left : (e : Object_edit) (w : World) → HaveLogins w → HaveLogins (edit_world None (Of_objects e) w)
objects_left (Processes_go p) w h = λ k. logins_left (edited (Go p) w.processes) (w.sessions k)
objects_left (Process_goes pid) w h = λ k. login_left pid w.processes (w.sessions k) (h k)
objects_left (Processes_change f) w h = λ k. change_among (keeping_pid f) (λ p. refl) w.processes (w.sessions k) (h k)
objects_left e w h = h

comes_left : (c : Arrival) (w : World) → HaveLogins w → HaveLogins (comes_world c w)
comes_left (New_process p) w h = λ k. come_among p w.processes (w.sessions k) (h k)
comes_left (New_record row) w h = gone_left (keeps_console row) (record w { stored = row }) h
comes_left c w h = h

-- any other event
module _ (z : Name) (w : World) (h : HaveLogins w) where
  seat_left : (ps : List Process) (k : ℕ) (d : Option Doing) → Seat z w k d → HasLogin ps d
  seat_left ps k _ (Opens base is idle) = tt
  seat_left ps k _ (Leaves_off e there) = tt
  seat_left ps k _ (Says e text there) = tt
  seat_left ps k _ (Stores e text config m there ends shown) = tt

  seated_left : (k : ℕ) (es : List Edit) → Seated z w k es → (v : World) → HaveLogins v → HaveLogins (edits_world (Some k) es v)
  seated_left k _ Unseated v is = is
  seated_left k _ (Is_seated d s) v is = kept-here (HasLogin v.processes) k d v.sessions (seat_left v.processes k d s) is

  called_left : (n : Option ℕ) (c : Option Arrival) (es : List Edit) → Called w n c es → HaveLogins (edits_world n es (after_came_world c w))
  called_left _ _ _ (Forks n parent pid p name is) = comes_left (New_process (forked p name pid)) w h
  called_left _ _ _ (Enters k pid name escape running idle) =
      let p = entered (kernel_of (objects_of w)) name false pid in
      kept-here (HasLogin (put (below pid) p w.processes)) k (Some (Logged_in pid escape)) w.sessions (holds-put pid p w.processes ∙ rw (eq-eqb pid pid refl) refl) (comes_left (New_process p) w h)
  called_left _ _ _ (Comes k pid name running) = comes_left (New_process (entered (kernel_of (objects_of w)) name false pid)) w h
  called_left _ _ _ (Goes n pid) = objects_left (Process_goes pid) w h
  called_left _ _ _ (Renames n pid name) = objects_left (Processes_change (at_pid pid (renamed name))) w h
  called_left _ _ _ (Drops n pid number) = objects_left (Processes_change (at_pid pid (dropping number))) w h

  consoled_left : (n : Option ℕ) (es : List Edit) → Consoled w n es → HaveLogins (edits_world n es w)
  consoled_left _ _ (Writes n text) = h
  consoled_left _ _ (Takes n) = h
  consoled_left _ _ (Attaches k escape idle free) = kept-here (HasLogin w.processes) k (Some (At_console escape)) w.sessions tt h
  consoled_left _ _ (Detaches k escape there) = kept-here (HasLogin w.processes) k None w.sessions tt h

  does_left : (n : Option ℕ) (c : Option Arrival) (es : List Edit) → Does z w n c es → HaveLogins (edits_world n es (after_came_world c w))
  does_left _ _ _ (Tells n) = h
  does_left _ _ _ (Edits k es s) = seated_left k es s w h
  does_left _ _ _ (Records k stored config m es is says s) =
      let row = Some (committed_record z stored config m) in let keeps = keeps_console row in
      seated_left k es s (console_gone_world keeps (record w { stored = row })) (gone_left keeps (record w { stored = row }) h)
  does_left _ _ _ (Removes k row es is c r s) = seated_left k es s (console_gone_world false (record w { stored = None })) (gone_left false (record w { stored = None }) h)
  does_left _ _ _ (Puts k r row is idle room) = kept-here (HasLogin w.processes) k (Some (Awaiting (w.desk.last + 1))) w.sessions tt h
  does_left _ _ _ (Calls n c es called) = called_left n c es called
  does_left _ _ _ (Remounts n e mounted) = h
  does_left _ _ _ (Consoles n es consoled) = consoled_left n es consoled

there-event : (z : Name) (w : World) (e : Event) (g : Grant) → HaveLogins w → HaveLogins (acts_world (session_number e) (act_of (decide (view_of z w) e) g) w)
there-event z w e g h =
    of_any z w HaveLogins (λ v is. does_left z v is) h g (kept_turn HaveLogins objects_left (λ d w h. h) (λ t w h. kept-sweep (HasLogin w.processes) tt (ticket_ended t) (ticket-ends t) w.sessions h) comes_left (turn_act w g) w h) e

have_logins : (z : Name) (brands : List Tabled) (commits : List Commit) (h : List Entry) → HaveLogins (world z (after (opening brands commits) h))
have_logins z brands commits h = kept-after HaveLogins there-event (λ w d h. h) (λ w h n. tt) (opening brands commits) h (λ z n. tt) z

-- a process of a number is found by it
found : (n : ℕ) (ps : List Process) → list_any (has_pid n) ps ≡ true → is_some (with_pid n ps) ≡ true
found n [] h = absurd (false≢true h)
found n (p ∷ ps) h = at_head (found n ps) (has_pid n p) refl h
  where
    at_head : (list_any (has_pid n) ps ≡ true → is_some (with_pid n ps) ≡ true) → (b : Bool) → has_pid n p ≡ b → list_any (has_pid n) (p ∷ ps) ≡ true → is_some (with_pid n (p ∷ ps)) ≡ true
    at_head ih true e h = simp e
    at_head ih false e h = simp e (ih (simp e at h))

pub there-history : (z : Name) (brands : List Tabled) (commits : List Commit) (h : List Entry) (n pid : ℕ) (escape : Option ℕ)
    → (let S = after (opening brands commits) h in S.sessions n ≡ At z (Logged_in pid escape) → is_some (with_pid pid (world z S).processes) ≡ true)
there-history z brands commits h n pid escape is =
    let S = after (opening brands commits) h in
    found pid (world z S).processes (subst (HasLogin (world z S).processes) (ap (doing z) is ∙ doing_at z (Logged_in pid escape)) (have_logins z brands commits h n))
