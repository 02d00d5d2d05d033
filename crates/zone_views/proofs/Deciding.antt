-- What an event of a zone leaves of the zone's world.
use Rattle.std.specs.Prelude.{is_some, ◌&&◌, ◌||◌, ◌==◌, Result, Ok as Right, Err, if◌then◌else◌}
use Rattle.kernel_objects.specs.Kernel.{at_limit, entered, fork_set, forked, fs_allowed_of}
use Rattle.kernel_objects.specs.Processes.{Process, at_pid, below, dropping, ends, may_exec, may_mount, renamed, with_pid}
use Rattle.kernel_objects.specs.declared.faults.Errno.{Errno}
use Rattle.kernel_objects.specs.declared.faults.Errno.TheVariants.{EAGAIN}
use Rattle.kernel_objects.specs.declared.objects.Signal.{Signal}
use Rattle.process_calls.specs.Calls.{Said, call_of}
use Rattle.process_calls.specs.declared.call.Call.{Call}
use Rattle.process_calls.specs.declared.call.Call.TheVariants as call
use Rattle.process_calls.specs.declared.call.MountCall.{MountCall}
use Rattle.loopback_mounts.specs.Mounts.{at_dir, before, is_at, mount_answer, mount_at, unmount_answer, with_hold}
use Rattle.loopback_mounts.specs.Places.{place_at, special_at}
use Rattle.loopback_mounts.specs.Types.{may_mount_type}
use Rattle.loopback_mounts.specs.declared.faults.HoldFault.{HoldFault}
use Rattle.loopback_mounts.specs.declared.faults.MountFault.{MountFault}
use Rattle.loopback_mounts.specs.declared.mount.Mount.{Mount}
use Rattle.loopback_mounts.specs.declared.mount.MountEntry.{MountEntry}
use Rattle.std.specs.Option.{option_map}
use Rattle.zone_cases.specs.Calls.{called, calls, calls_if_there, ending, execs, forks, is_by_process, mount_of, mounts, mounts_if_free, mounts_special, signals, tells_place, unmounts, unmounts_if_free}
use Rattle.std.proofs.Common.{◌≡◌, ◌+◌, ◌∷◌, ◌++◌, [], map, ℕ, List, Bool, Option, Some, None, true, false, codes, ap, refl, subst, sym, ◌∙◌}
use Rattle.console_link.specs.Consoles as consoles
use Rattle.console_link.specs.Consoles.{new_console}
use Rattle.zn_base.specs.Lines.{lines_of}
use Rattle.zone_pools.specs.Decisions as decisions
use Rattle.zone_pools.specs.Decisions.{Ask, Just}
use Rattle.zone_pools.specs.Firsts.{is_nil}
use Rattle.zn_base.specs.Names.{Name, name_of}
use Rattle.zn_base.specs.declared.name.NameFault.{NameFault}
use Rattle.zn_base.specs.declared.state.ZoneState.{ZoneState}
use Rattle.zn_base.specs.declared.state.ZoneState.TheVariants.{Configured, Incomplete, Running}
use Rattle.std.proofs.lemmas.Bool.{false≢true}
use Rattle.zone_config.specs.Same.{same_contents}
use Rattle.zone_config.specs.declared.terms.Contents.{Contents}
use Rattle.zonecfg_scopes.specs.Edited.{Edited, is_changed, opened_on, revision_of}
use Rattle.zonecfg_scopes.specs.declared.base.Base.{Base}
use Rattle.zonecfg_scopes.specs.OpenOf.{config_of}
use Rattle.zonecfg_lines.specs.Runs.{Run}
use Rattle.zonecfg_lines.specs.declared.reply.Ending.{Ending}
use Rattle.zonecfg_lines.specs.declared.reply.Ending.TheVariants as ending
use Rattle.zonecfg_lines.specs.declared.refusal.LineRefusal.{LineRefusal}
use Rattle.zone_pools.specs.declared.grant.Grant.{Grant}
use Rattle.zone_machine.specs.Code.Works.{turned_act}
use Rattle.zone_machine.proofs.Turned_laws.{In, decide-turn, has-turned, in-act, stored_after, turn_act}
use Rattle.zone_machine.proofs.Doing_laws.{edits-then}
use Rattle.zone_pools.specs.Owned_lists.{Change, Go, List_edit, Put, edited, put}
use Rattle.zoneadmd_steps.specs.Objects.{Object_edit, Of_mounts, Process_goes, Processes_change, kernel_of, mounts_after}
use Rattle.zoneadmd_steps.specs.Arrivals.{Arrival, New_process, New_record}
use Rattle.zone_cases.specs.State.Decisions.{Act, Decision, Effect, act_of, acts_world, after_came_world, done_saying, sweeps, ticket_ended, told}
use Rattle.zoneadmd_steps.specs.Turns.{Turned}
use Rattle.zoneadmd_steps.specs.Desks.{Desk, has_request, is_full, state_now, with_request}
use Rattle.zone_cases.specs.State.Edits.{Edit as Zone_edit, Here, Hold as Hold_console, Leave, Line as Line_of, Of_console, Of_objects, Set_desk, Sweep, Take, at_session, comes_world, console_gone_world, console_left, edit_console, edit_world, edits_world, keeps_console, swept_doing}
use Rattle.zone_cases.specs.Session.Logins.{alone, call_word, entered_line, entry_refusal, enters, with_newcomer, console_by, console_line, console_refusal, escapes, if_any, logged_line, login_of, logs_in, passed_as, runs, said_in, status_of, unless}
use Rattle.zone_cases.specs.Session.Lines.{Ask as Asks, Blank, Clone, Command, Console, Edit, Enter, Help, Hold, Kill, Line, List_one, List_zones, Login, Release, Unforced, Unknown, Verify, Zonecfg, line_of}
use Rattle.zone_machine.specs.Machine.{decide, session_number}
use Rattle.zone_cases.specs.State.{At_console, Awaiting, Doing, Editing, Logged_in}
use Rattle.zone_cases.specs.Session.Commits.{A_session, Alone, Goes_on, Hearer, Leaves, Of_its_own, Typist, base_now, base_of, based, commit, commit_over, commit_unless, commits, committed_record, delete, delete_seen, edits_line, ended, goes, goes_over, is_configured, keeps_place, leaves, line_refusal, records, refuses, removes, revision_now, said_alone, said_to, telling, typist, zonecfg}
use Rattle.zone_cases.specs.Session.Typed.{held_answer, holding_at, holds, idle_line, put_clone, put_request, typed}
use Rattle.zone_cases.specs.State.Worlds.{View, World, objects_of, view_of}
use Rattle.zoneadmd_steps.specs.declared.requests.Request.{Request}
use Rattle.zoneadmd_steps.specs.declared.requests.Request.TheVariants as request
use Rattle.brand_hooks.specs.Brands.{tabled_names}
use Rattle.config_verify.specs.Flaws.{first, flaws}
use Rattle.config_verify.specs.declared.flaw.Flaw.{Flaw}
use Rattle.zone_cases.specs.declared.events.Event.{Event}
use Rattle.zone_cases.specs.declared.events.Event.TheVariants.{Process as Call_of, Restart, Session, System, Turn}
use Rattle.zone_cases.specs.declared.replies.Head.TheVariants.{Ok}
use Rattle.zone_cases.specs.declared.replies.Refusal.{Refusal}
use Rattle.zone_cases.specs.declared.replies.Refusal.TheVariants.{Changed, Denied, DeskInUse, Errno as Of_errno, Flawed, NoZone, NotRunning, Taken, WrongState}
use Rattle.zone_cases.specs.declared.replies.Body.TheVariants.{Lines}
use Rattle.commit_journal.specs.declared.records.Record.{Record}

-- a zone runs where its desk says so
is_running : (active : Option ZoneState) → runs active ≡ true → active ≡ Some Running
is_running (Some Running) h = refl
is_running active h = absurd (false≢true h)

-- what a call of a zone's process does to the zone's processes, a signal from the global zone, or a session that logs in
pub data Called (w : World) : Option ℕ → Option Arrival → List Zone_edit → Type 0 where
  Forks : (n : Option ℕ) (parent pid : ℕ) (p : Process) (name : List ℕ) → with_pid parent w.processes ≡ Some p → Called w n (Some (New_process (forked p name pid))) []
  -- by zlogin(1), in a zone that runs: the session was idle
  Enters : (k pid : ℕ) (name : List ℕ) (escape : Option ℕ) → w.desk.active ≡ Some Running → w.sessions k ≡ None
      → Called w (Some k) (Some (New_process (entered (kernel_of (objects_of w)) name false pid))) (Here (Some (Logged_in pid escape)) ∷ [])
  Comes : (k pid : ℕ) (name : List ℕ) → w.desk.active ≡ Some Running → Called w (Some k) (Some (New_process (entered (kernel_of (objects_of w)) name false pid))) []
  Goes : (n : Option ℕ) (pid : ℕ) → Called w n None (Of_objects (Process_goes pid) ∷ [])
  Renames : (n : Option ℕ) (pid : ℕ) (name : List ℕ) → Called w n None (Of_objects (Processes_change (at_pid pid (renamed name))) ∷ [])
  Drops : (n : Option ℕ) (pid number : ℕ) → Called w n None (Of_objects (Processes_change (at_pid pid (dropping number))) ∷ [])

-- what a call of a zone's process does to the zone's mounts, or a hold from the global zone
pub data Mounted (ps : List Process) (ms : List MountEntry) : List_edit MountEntry → Type 0 where
  Mounts : (m : Mount) → (ps ≡ [] → ⊥) → mount_answer m.dir ms ≡ Right tt → Mounted ps ms (Put (before m.dir) (record { mount = m; held = false }))
  Unmounts : (dir : List ℕ) → (ps ≡ [] → ⊥) → Mounted ps ms (Go (is_at dir))
  Holds : (dir : List ℕ) (held : Bool) → Mounted ps ms (Change (at_dir dir (with_hold held)))

-- what becomes of the zone's console, and of the session that has it from now on, or has it no more
pub data Consoled (w : World) : Option ℕ → List Zone_edit → Type 0 where
  Writes : (n : Option ℕ) (text : List ℕ) → Consoled w n (Of_console (Line_of text) ∷ [])
  Takes : (n : Option ℕ) → Consoled w n (Of_console Take ∷ [])
  Attaches : (k : ℕ) (escape : Option ℕ) → w.sessions k ≡ None → w.console.holder ≡ None → Consoled w (Some k) (Here (Some (At_console escape)) ∷ Of_console Hold_console ∷ [])
  Detaches : (k : ℕ) (escape : Option ℕ) → w.sessions k ≡ Some (At_console escape) → Consoled w (Some k) (Here None ∷ Of_console Leave ∷ [])

-- what a call does that asks for no number
pub data Unasked (w : World) : Option ℕ → List Zone_edit → Type 0 where
  Says_only : (n : Option ℕ) → Unasked w n []
  Changes : (n : Option ℕ) (es : List Zone_edit) → Called w n None es → Unasked w n es
  Mounts_on : (n : Option ℕ) (e : List_edit MountEntry) → Mounted w.processes w.mounts e → Unasked w n (Of_objects (Of_mounts e) ∷ [])
  Tells_console : (n : Option ℕ) (text : List ℕ) → Unasked w n (Of_console (Line_of text) ∷ [])

-- what a session of z edits from now on that types a line of zonecfg(8), or that it leaves its editor
pub data Seat (z : Name) (w : World) (k : ℕ) : Option Doing → Type 0 where
  Opens : (base : Option Base) → base ≡ option_map base_of w.stored → w.sessions k ≡ None → Seat z w k (Some (Editing (opened_on z base)))
  Leaves_off : (e : Edited) → w.sessions k ≡ Some (Editing e) → Seat z w k None
  Says : (e : Edited) (text : List ℕ) → w.sessions k ≡ Some (Editing e) → Seat z w k (Some (Editing (said_to (view_of z w) e text).edited))
  Stores : (e : Edited) (text : List ℕ) (config : Contents) (m : ℕ) → w.sessions k ≡ Some (Editing e) → (said_to (view_of z w) e text).end ≡ Right ending.Commit
      → config_of (said_to (view_of z w) e text).edited.opened ≡ Some config → Seat z w k (Some (Editing (based config m (said_to (view_of z w) e text).edited)))

-- the same, where a line may be a session of its own
pub data Seated (z : Name) (w : World) (k : ℕ) : List Zone_edit → Type 0 where
  Unseated : Seated z w k []
  Is_seated : (d : Option Doing) → Seat z w k d → Seated z w k (Here d ∷ [])

-- whose configuration a line of the session k commits: that of a line that is a session of its own, or what the session edits
pub data Saying (z : Name) (w : World) (k : ℕ) (config : Contents) : Type 0 where
  Alone_says : (text : List ℕ) → config_of (said_alone (view_of z w) text).edited.opened ≡ Some config → Saying z w k config
  Session_says : (e : Edited) (text : List ℕ) → w.sessions k ≡ Some (Editing e) → config_of (said_to (view_of z w) e text).edited.opened ≡ Some config → Saying z w k config

-- what an event of z does that is no turn of its daemon: what comes with a grant, and the edits. It tells something, or a line is
-- said to an editor; a configuration is recorded over what is stored, or the zone is removed; a request is put on the desk; a
-- call, a signal, a hold or a login does something; or the console has another line or another holder
pub data Does (z : Name) (w : World) : Option ℕ → Option Arrival → List Zone_edit → Type 0 where
  Tells : (n : Option ℕ) → Does z w n None []
  Edits : (k : ℕ) (es : List Zone_edit) → Seated z w k es → Does z w (Some k) None es
  Records : (k : ℕ) (stored : Option Record) (config : Contents) (m : ℕ) (es : List Zone_edit) → w.stored ≡ stored → Saying z w k config → Seated z w k es
      → Does z w (Some k) (Some (New_record (Some (committed_record z stored config m)))) es
  Removes : (k : ℕ) (row : Record) (es : List Zone_edit) → w.stored ≡ Some row → is_configured (state_now row w.desk) ≡ true → has_request w.desk ≡ false → Seated z w k es
      → Does z w (Some k) (Some (New_record None)) es
  Puts : (k : ℕ) (r : Request) (row : Record) → w.stored ≡ Some row → w.sessions k ≡ None → is_full w.desk ≡ false
      → Does z w (Some k) None (Set_desk (with_request w.desk r) ∷ Here (Some (Awaiting (w.desk.last + 1))) ∷ [])
  Calls : (n : Option ℕ) (c : Option Arrival) (es : List Zone_edit) → Called w n c es → Does z w n c es
  Remounts : (n : Option ℕ) (e : List_edit MountEntry) → Mounted w.processes w.mounts e → Does z w n None (Of_objects (Of_mounts e) ∷ [])
  Consoles : (n : Option ℕ) (es : List Zone_edit) → Consoled w n es → Does z w n None es

-- what an event of z does that is no turn of its daemon: one of these; or a process comes, does what a call does that asks for no
-- number, and goes
pub data Acts (z : Name) (w : World) : Option ℕ → Option Arrival → List Zone_edit → Type 0 where
  Once : (n : Option ℕ) (c : Option Arrival) (es : List Zone_edit) → Does z w n c es → Acts z w n c es
  Errand : (k pid : ℕ) (name : List ℕ) (es : List Zone_edit) → w.desk.active ≡ Some Running
      → Unasked (comes_world (New_process (entered (kernel_of (objects_of w)) name false pid)) w) (Some k) es
      → Acts z w (Some k) (Some (New_process (entered (kernel_of (objects_of w)) name false pid))) (es ++ Of_objects (Process_goes pid) ∷ [])

-- a list into which something was put is not empty
some-put : (q : Process → Bool) (p : Process) (ps : List Process) → put q p ps ≡ [] → ⊥
some-put q p [] h = absurd (cc)
some-put q p (x ∷ ps) h = at_test (q x) h
  where
    at_test : (b : Bool) → (if b then x ∷ put q p ps else p ∷ x ∷ ps) ≡ [] → ⊥
    at_test true h = absurd (cc)
    at_test false h = absurd (cc)

-- what a call of a process comes to, by what the zone has and whom it finds
module _ (z : Name) (w : World) (look : ℕ → Option Process) (n : Option ℕ) (pid : ℕ) (p : Process) where
  abbrev v : View
  v = record { zone = z; world = w; process = look }

  abbrev Lone : Option Arrival → Effect → Type 0
  Lone None e = Unasked w n e.edits
  Lone (Some c) e = with_pid pid w.processes ≡ Some p → Called w n (Some c) e.edits

  signalled : (inside : Bool) (signal : Signal) (target : ℕ) (q : Option Process) → In Lone (signals inside signal target q)
  signalled inside signal target None = Says_only n
  signalled inside signal target (Some q) = at_test (ends inside signal q)
    where
      at_test : (b : Bool) → Lone None (done_saying (ending b target) Ok)
      at_test true = Changes n _ (Goes n target)
      at_test false = Says_only n

  of_fork : (name : List ℕ) (set : Result (List ℕ) Errno) → In Lone (forks p name set)
  of_fork name (Err e) = Says_only n
  of_fork name (Right set) = (λ pool. Says_only n, λ child is. Forks n pid child p name is)

  of_exec : (name : List ℕ) → In Lone (execs pid p name)
  of_exec name = at_test (may_exec p) refl
    where
      at_test : (b : Bool) → may_exec p ≡ b → In Lone (execs pid p name)
      at_test true e = simp e (Changes n _ (Renames n pid name))
      at_test false e = simp e (Says_only n)

  of_free : (w.processes ≡ [] → ⊥) → (mount : Mount) (answer : Result (Unit {0}) MountFault) → mount_answer mount.dir w.mounts ≡ answer → In Lone (mounts_if_free mount answer)
  of_free some mount (Err fault) is = Says_only n
  of_free some mount (Right free) is = Mounts_on n _ (Mounts mount some is)

  of_special : (w.processes ≡ [] → ⊥) → (c : MountCall) (special : Result (List ℕ) MountFault) → In Lone (mounts_special c w.mounts special)
  of_special some c (Err fault) = Says_only n
  of_special some c (Right special) = of_free some (mount_of c special) (mount_answer c.dir w.mounts) refl

  of_mount : (w.processes ≡ [] → ⊥) → (allowed : Option (List ℕ)) (c : MountCall) → In Lone (mounts p allowed c w.mounts)
  of_mount some allowed c = at_test (may_mount p && may_mount_type allowed c.fstype) refl
    where
      at_test : (b : Bool) → (may_mount p && may_mount_type allowed c.fstype) ≡ b → In Lone (mounts p allowed c w.mounts)
      at_test true e = rw e (of_special some c (special_at w.mounts c.fstype c.special))
      at_test false e = rw e (Says_only n)

  of_unmount : (w.processes ≡ [] → ⊥) → (dir : List ℕ) → In Lone (unmounts p dir w.mounts)
  of_unmount some dir = at_test (may_mount p && is_by_process (mount_at dir w.mounts)) refl
    where
      at_answer : (answer : Result Mount MountFault) → In Lone (unmounts_if_free dir answer)
      at_answer (Err fault) = Says_only n
      at_answer (Right mount) = Mounts_on n _ (Unmounts dir some)

      at_test : (b : Bool) → (may_mount p && is_by_process (mount_at dir w.mounts)) ≡ b → In Lone (unmounts p dir w.mounts)
      at_test true e = rw e (at_answer (unmount_answer dir w.mounts))
      at_test false e = rw e (Says_only n)

  of_place : (place : Result (List ℕ) MountFault) → In Lone (tells_place place)
  of_place (Err fault) = Says_only n
  of_place (Right place) = Says_only n

  of_calls : (w.processes ≡ [] → ⊥) → (c : Call) → In Lone (calls v pid p c)
  of_calls some (call.Fork name) = of_fork name (fork_set (Some p) (at_limit (kernel_of (objects_of w))))
  of_calls some (call.Exec name) = of_exec name
  of_calls some call.Exit = Changes n _ (Goes n pid)
  of_calls some (call.Kill signal target) = signalled true signal target (look target)
  of_calls some (call.Drop number) = Changes n _ (Drops n pid number)
  of_calls some (call.Mount c) = of_mount some (fs_allowed_of (kernel_of (objects_of w)).id) c
  of_calls some (call.Umount dir) = of_unmount some dir
  of_calls some (call.Read path) = of_place (place_at w.mounts path false)
  of_calls some (call.Write path) = of_place (place_at w.mounts path true)
  of_calls some (call.Cons text) = Tells_console n text
  of_calls some _ = Says_only n

  -- by one that gets no second number
  alone_does : (d : Decision) → In Lone d → Unasked w n (alone d).edits
  alone_does (Just e) h = h
  alone_does (Ask c asked denied given) h = Says_only n

does_alone : (z : Name) (w : World) (n : Option ℕ) (es : List Zone_edit) → Unasked w n es → Does z w n None es
does_alone z w _ _ (Says_only n) = Tells n
does_alone z w _ _ (Changes n es called) = Calls n None es called
does_alone z w _ _ (Mounts_on n e mounted) = Remounts n e mounted
does_alone z w _ _ (Tells_console n text) = Consoles n _ (Writes n text)

module _ (z : Name) (w : World) where
  abbrev Did : Option ℕ → Option Arrival → Effect → Type 0
  Did n c e = Does z w n c e.edits

  -- one of two decisions
  of_either : (n : Option ℕ) (b : Bool) (d e : Decision) → In (Did n) d → In (Did n) e → In (Did n) (if b then d else e)
  of_either n true d e h k = h
  of_either n false d e h k = k

  -- a line that the session k types
  module _ (k : ℕ) where
    abbrev DidHere : Decision → Type 0
    DidHere d = In (Did (Some k)) d

    -- what a session may do that types a line, and what it may do where it has stored what is open
    abbrev Sits : Typist → Type 0
    Sits Alone = Unit {0}
    Sits (Goes_on e) = Seat z w k (Some (Editing e))
    Sits (Leaves e) = Seat z w k (Some (Editing e)) × Seat z w k None

    abbrev Stored_sits : Option Contents → Typist → Type 0
    Stored_sits o (Goes_on e) = (config : Contents) (m : ℕ) → o ≡ Some config → Seat z w k (Some (Editing (based config m e)))
    Stored_sits o t = Unit {0}

    -- a line is refused, or is done and stores nothing
    of_refused : (t : Typist) (refusal : Refusal) (told : List (List ℕ)) → Sits t → Did (Some k) None (refuses t refusal told)
    of_refused Alone refusal told s = Edits k _ Unseated
    of_refused (Goes_on e) refusal told s = Edits k _ (Is_seated _ s)
    of_refused (Leaves e) refusal told s = Edits k _ (Is_seated _ s.0)

    seated_done : (t : Typist) → Sits t → Seated z w k (goes t)
    seated_done Alone s = Unseated
    seated_done (Goes_on e) s = Is_seated _ s
    seated_done (Leaves e) s = Is_seated _ s.1

    of_done : (t : Typist) (told : List (List ℕ)) → Sits t → Did (Some k) None (telling (goes t) Ok told)
    of_done t told s = Edits k _ (seated_done t s)

    of_record : (stored : Option Record) → w.stored ≡ stored → (config : Contents) → Saying z w k config → (told : List (List ℕ)) (t : Typist) → Sits t → Stored_sits (Some config) t → DidHere (records z stored config told t)
    of_record stored is config says told t s b = (λ pool. of_refused t (Denied pool) told s, λ m. Records k stored config m _ is says (at_typist t m s b))
      where
        at_typist : (t : Typist) (m : ℕ) → Sits t → Stored_sits (Some config) t → Seated z w k (goes_over config m t)
        at_typist Alone m s b = Unseated
        at_typist (Goes_on e) m s b = Is_seated _ (b config m refl)
        at_typist (Leaves e) m s b = Is_seated _ s.1

    of_over : (stored : Option Record) → w.stored ≡ stored → (d : Desk) (config : Contents) → Saying z w k config → (told : List (List ℕ)) (t : Typist) → Sits t → Stored_sits (Some config) t → DidHere (commit_over z d stored config told t)
    of_over None is d config says told t s b = of_record None is config says told t s b
    of_over (Some row) is d config says told t s b =
        of_either (Some k) (same_contents config row.config) _ _ (of_done t told s)
        (of_either (Some k) (keeps_place row config || is_configured (state_now row d)) _ _ (of_record (Some row) is config says told t s b) (of_refused t (WrongState (state_now row d)) told s))

    of_unless : (r : Result (Unit {0}) Flaw) (seen : ℕ) (config : Contents) → Saying z w k config → (told : List (List ℕ)) (t : Typist) → Sits t → Stored_sits (Some config) t → DidHere (commit_unless r seen z w.desk w.stored config told t)
    of_unless (Err flaw) seen config says told t s b = of_refused t (Flawed flaw) told s
    of_unless (Right fine) seen config says told t s b = of_either (Some k) (revision_now w.stored == seen) _ _ (of_over w.stored refl w.desk config says told t s b) (of_refused t (Changed seen (revision_now w.stored)) told s)

    of_commit : (seen : ℕ) (o : Option Contents) → ((config : Contents) → o ≡ Some config → Saying z w k config) → (told : List (List ℕ)) (t : Typist) → Sits t → Stored_sits o t
        → DidHere (commit (view_of z w) seen o told t)
    unfolding view_of
    of_commit seen None says told t s b = of_done t told s
    of_commit seen (Some config) says told t s b = of_unless (first (flaws (tabled_names w.brands) config)) seen config (says config refl) told t s b

    of_removal : (row : Record) → w.stored ≡ Some row → is_configured (state_now row w.desk) ≡ true → has_request w.desk ≡ false → (told : List (List ℕ)) (t : Typist) → Sits t → DidHere (removes told t)
    of_removal row is e f told t s = (λ pool. of_refused t (Denied pool) told s, λ m. Removes k row _ is e f (seated_done t s))

    of_delete : (seen : ℕ) (stored : Option Record) → w.stored ≡ stored → (told : List (List ℕ)) (t : Typist) → Sits t → DidHere (delete seen w.desk stored told t)
    of_delete seen None is told t s = of_refused t NoZone told s
    of_delete seen (Some row) is told t s = of_either (Some k) (row.revision == seen) _ _ (at_state (is_configured (state_now row w.desk)) refl (has_request w.desk) refl) (of_refused t (Changed seen row.revision) told s)
      where
        at_state : (c : Bool) → is_configured (state_now row w.desk) ≡ c → (b : Bool) → has_request w.desk ≡ b → DidHere (delete_seen w.desk row told t)
        at_state false e b f = simp e (of_refused t (WrongState (state_now row w.desk)) told s)
        at_state true e true f = simp (e, f) (of_refused t DeskInUse told s)
        at_state true e false f = simp (e, f) (of_removal row is e f told t s)

    of_leaves : (seen : ℕ) (e : Ending) (told : List (List ℕ)) (t : Typist) → Sits t → DidHere (leaves (view_of z w) seen e told t)
    unfolding view_of
    of_leaves seen ending.Delete told t s = of_delete seen w.stored refl told t s
    of_leaves seen ending.Commit told t s = of_done t told s
    of_leaves seen (ending.Exit force) told t s = of_done t told s
    of_leaves seen ending.Nothing told t s = of_done t told s

    -- by what the line's session may do after it, whatever its end, and after a commit that doesn't leave
    of_ended : (h : Hearer) (run : Run) (r : Result Ending LineRefusal) → ((config : Contents) → config_of run.edited.opened ≡ Some config → Saying z w k config) → ((e : Ending) → Sits (typist h e run.edited))
        → (r ≡ Right ending.Commit → Stored_sits (config_of run.edited.opened) (typist h ending.Commit run.edited))
        → ((force : Bool) → Stored_sits (config_of run.edited.opened) (typist h (ending.Exit force) run.edited)) → DidHere (ended (view_of z w) h run r)
    of_ended h run (Err refusal) says s b x = of_refused (typist h ending.Nothing run.edited) (line_refusal refusal) run.told (s ending.Nothing)
    of_ended h run (Right ending.Commit) says s b x =
        of_commit (revision_of run.edited.base) (config_of run.edited.opened) says run.told (typist h ending.Commit run.edited) (s ending.Commit) (b refl)
    of_ended h run (Right (ending.Exit force)) says s b x =
        let seen = revision_of run.edited.base in let t = typist h (ending.Exit force) run.edited in
        of_either (Some k) (commits (ending.Exit force) (is_changed run.edited)) _ _ (of_commit seen (config_of run.edited.opened) says run.told t (s (ending.Exit force)) (x force))
        (of_leaves seen (ending.Exit force) run.told t (s (ending.Exit force)))
    of_ended h run (Right ending.Delete) says s b x = of_leaves (revision_of run.edited.base) ending.Delete run.told (typist h ending.Delete run.edited) (s ending.Delete)
    of_ended h run (Right ending.Nothing) says s b x = of_leaves (revision_of run.edited.base) ending.Nothing run.told (typist h ending.Nothing run.edited) (s ending.Nothing)

    -- a line that is a session of its own, and one of a session that edits
    of_alone : (text : List ℕ) → DidHere (zonecfg (view_of z w) text)
    of_alone text = of_ended Of_its_own (said_alone (view_of z w) text) (said_alone (view_of z w) text).end (λ config shown. Alone_says text shown) (λ e. tt) (λ is. tt) (λ force. tt)

    of_edits : (e : Edited) (text : List ℕ) → w.sessions k ≡ Some (Editing e) → DidHere (edits_line (view_of z w) e text)
    of_edits e text there = of_ended A_session (said_to (view_of z w) e text) (said_to (view_of z w) e text).end (λ config shown. Session_says e text there shown) sits (λ is config c shown. Stores e text config c there is shown) (λ force. tt)
      where
        sits : (ending : Ending) → Sits (typist A_session ending (said_to (view_of z w) e text).edited)
        sits ending.Commit = Says e text there
        sits (ending.Exit force) = (Says e text there, Leaves_off e there)
        sits ending.Delete = (Says e text there, Leaves_off e there)
        sits ending.Nothing = Says e text there

    of_request : (r : Request) (row : Option Record) → w.stored ≡ row → w.sessions k ≡ None → Did (Some k) None (put_request w.desk r row)
    of_request r None is idle = Tells (Some k)
    of_request r (Some row) is idle = at_test (is_full w.desk) refl
      where
        at_test : (b : Bool) → is_full w.desk ≡ b → Did (Some k) None (put_request w.desk r (Some row))
        at_test true e = simp e (Tells (Some k))
        at_test false e = simp e (Puts k r row is idle e)

    of_clone : (r : Result Name NameFault) → w.sessions k ≡ None → Did (Some k) None (put_clone w.desk r w.stored)
    of_clone (Err fault) idle = Tells (Some k)
    of_clone (Right source) idle = of_request (request.Clone source) w.stored refl idle

  -- calls, and a signal or a hold from the global zone
  module _ (n : Option ℕ) where
    of_signal : (inside : Bool) (signal : Signal) (pid : ℕ) (p : Option Process) → In (Did n) (signals inside signal pid p)
    of_signal inside signal pid None = Tells n
    of_signal inside signal pid (Some p) = at_test (ends inside signal p)
      where
        at_test : (b : Bool) → Did n None (done_saying (ending b pid) Ok)
        at_test true = Calls n _ _ (Goes n pid)
        at_test false = Tells n

    of_hold : (row : Option Record) (answer : Result (Unit {0}) HoldFault) (held : Bool) (dir : List ℕ) → In (Did n) (holds row answer (holding_at held dir))
    of_hold None answer held dir = Tells n
    of_hold (Some row) (Err fault) held dir = Tells n
    of_hold (Some row) (Right done) held dir = Remounts n _ (Holds dir held)

    of_lone : (pid : ℕ) (p : Process) (d : Decision) → with_pid pid w.processes ≡ Some p → In (Lone z w (λ target. with_pid target w.processes) n pid p) d → In (Did n) d
    of_lone pid p (Just e) is h = does_alone z w n e.edits h
    of_lone pid p (Ask c asked denied given) is h = (λ pool. does_alone z w n _ (h.0 pool), λ m. Calls n _ _ (h.1 m is))

    of_call : (pid : ℕ) (p : Process) (c : Call) → with_pid pid w.processes ≡ Some p → In (Did n) (calls (view_of z w) pid p c)
    unfolding view_of
    of_call pid p c is = of_lone pid p (calls (view_of z w) pid p c) is (of_calls z w (λ target. with_pid target w.processes) n pid p (λ e. let none : None ≡ Some p = sym (ap (with_pid pid) e) ∙ is in cc) c)

    of_called : (pid : ℕ) (p : Option Process) (c : Call) → with_pid pid w.processes ≡ p → In (Did n) (calls_if_there (view_of z w) pid p c)
    of_called pid None c is = Tells n
    of_called pid (Some p) c is = of_call pid p c is

    -- what a call of a session comes to, as it is passed on
    of_passed : (status : ℕ) (d : Decision) → In (Did n) d → In (Did n) (passed_as status d)
    of_passed status (Just e) h = h
    of_passed status (Ask c asked denied given) h = (λ pool. h.0 pool, λ m. h.1 m)

    of_said : (pid : ℕ) (said : Said) → In (Did n) (said_in (view_of z w) pid said)
    unfolding view_of
    of_said pid (Err fault) = Tells n
    of_said pid (Right c) = of_passed (status_of c) (calls_if_there (view_of z w) pid (with_pid pid w.processes) c) (of_called pid (with_pid pid w.processes) c refl)

    of_logged : (pid : ℕ) (escape : Option ℕ) (text : List ℕ) → In (Did n) (logged_line (view_of z w) pid escape text)
    of_logged pid escape text = of_either n (escapes escape text) _ _ (Calls n _ _ (Goes n pid)) (of_either n (is_nil text) _ _ (Tells n) (of_said pid (call_of text)))

  -- zlogin(1)
  of_login : (k : ℕ) (stored : Option Record) (escape : Option ℕ) → w.sessions k ≡ None → In (Did (Some k)) (logs_in escape stored w.desk (kernel_of (objects_of w)))
  of_login k None escape idle = Tells (Some k)
  of_login k (Some row) escape idle = at_runs (runs w.desk.active) refl
    where
      at_limits : runs w.desk.active ≡ true → (b : Bool) → In (Did (Some k)) (unless (if_any b (Of_errno EAGAIN)) (login_of (kernel_of (objects_of w)) escape))
      at_limits e true = Tells (Some k)
      at_limits e false = (λ pool. Tells (Some k), λ pid. Calls (Some k) _ _ (Enters k pid (codes "login") escape (is_running w.desk.active e) idle))

      at_runs : (b : Bool) → runs w.desk.active ≡ b
          → In (Did (Some k)) (unless (if b then if_any (at_limit (kernel_of (objects_of w))) (Of_errno EAGAIN) else Some (NotRunning (state_now row w.desk))) (login_of (kernel_of (objects_of w)) escape))
      at_runs true e = at_limits e (at_limit (kernel_of (objects_of w)))
      at_runs false e = Tells (Some k)

  -- a console that is not refused is nobody's
  nobody_has : (stored : Option Record) (c : consoles.Console) → console_refusal stored w.desk c ≡ None → c.holder ≡ None
  nobody_has None c h = absurd (cc)
  nobody_has (Some row) c h = at_state (state_now row w.desk) h
    where
      at_holder : (o : Option ℕ) → if_any (is_some o) Taken ≡ None → o ≡ None
      at_holder None h = refl
      at_holder (Some n) h = absurd (cc)

      at_state : (s : ZoneState) → console_by s c ≡ None → c.holder ≡ None
      at_state Configured h = absurd (cc)
      at_state Incomplete h = absurd (cc)
      at_state s h = at_holder c.holder h

  of_console : (k : ℕ) (escape : Option ℕ) (r : Option Refusal) → console_refusal w.stored w.desk w.console ≡ r → w.sessions k ≡ None
      → In (Did (Some k)) (unless r (Just (record { edits = Here (Some (At_console escape)) ∷ Of_console Hold_console ∷ []; reply = told (Lines (lines_of w.console.output)) })))
  of_console k escape None is idle = Consoles (Some k) _ (Attaches k escape idle (nobody_has w.stored w.console is))
  of_console k escape (Some refusal) is idle = Tells (Some k)

  of_console_line : (k : ℕ) (escape : Option ℕ) (text : List ℕ) → w.sessions k ≡ Some (At_console escape) → In (Did (Some k)) (console_line (view_of z w) escape text)
  unfolding view_of
  of_console_line k escape text there = of_either (Some k) (escapes escape text) _ _ (Consoles (Some k) _ (Detaches k escape there)) (Consoles (Some k) _ (Takes (Some k)))

  abbrev Acted : Option ℕ → Option Arrival → Effect → Type 0
  Acted n c e = Acts z w n c e.edits

  of_once : (n : Option ℕ) (d : Decision) → In (Did n) d → In (Acted n) d
  of_once n (Just e) h = Once n None e.edits h
  of_once n (Ask c asked denied given) h = (λ pool. Once n None _ (h.0 pool), λ m. Once n _ _ (h.1 m))

  of_enters : (k : ℕ) (c : Call) → w.desk.active ≡ Some Running → In (Acted (Some k)) (enters (view_of z w) c)
  unfolding view_of
  of_enters k c running = (
    λ pool. Once (Some k) None [] (Tells (Some k)),
    λ pid.
        let p = entered (kernel_of (objects_of w)) (call_word c) false pid in
        let here = comes_world (New_process p) w in
        let look = (with_newcomer p (view_of z w)).process in
        Errand k pid (call_word c) _ running (alone_does z here look (Some k) pid p (calls (record { zone = z; world = here; process = look }) pid p c) (of_calls z here look (Some k) pid p (some-put (below pid) p w.processes) c)),
  )

  of_entered : (k : ℕ) (said : Said) → In (Acted (Some k)) (entered_line (view_of z w) said)
  unfolding view_of
  of_entered k (Err fault) = Once (Some k) None [] (Tells (Some k))
  of_entered k (Right c) = at_stored w.stored
    where
      at_limits : runs w.desk.active ≡ true → (b : Bool) → In (Acted (Some k)) (unless (if_any b (Of_errno EAGAIN)) (enters (view_of z w) c))
      at_limits e true = Once (Some k) None [] (Tells (Some k))
      at_limits e false = of_enters k c (is_running w.desk.active e)

      at_runs : (row : Record) (b : Bool) → runs w.desk.active ≡ b
          → In (Acted (Some k)) (unless (if b then if_any (at_limit (kernel_of (objects_of w))) (Of_errno EAGAIN) else Some (NotRunning (state_now row w.desk))) (enters (view_of z w) c))
      at_runs row true e = at_limits e (at_limit (kernel_of (objects_of w)))
      at_runs row false e = Once (Some k) None [] (Tells (Some k))

      at_stored : (stored : Option Record) → In (Acted (Some k)) (unless (entry_refusal stored w.desk (kernel_of (objects_of w))) (enters (view_of z w) c))
      at_stored None = Once (Some k) None [] (Tells (Some k))
      at_stored (Some row) = at_runs row (runs w.desk.active) refl

  abbrev Line_does : ℕ → Command → Type 0
  Line_does k (Enter text) = In (Acted (Some k)) (entered_line (view_of z w) (call_of text))
  Line_does k command = In (Did (Some k)) (idle_line (view_of z w) command)

  of_line : (k : ℕ) (command : Command) → w.sessions k ≡ None → Line_does k command
  unfolding view_of
  of_line k Blank idle = Tells (Some k)
  of_line k Help idle = Tells (Some k)
  of_line k Verify idle = Tells (Some k)
  of_line k (List_one form) idle = Tells (Some k)
  of_line k (List_zones options) idle = Tells (Some k)
  of_line k Unknown idle = Tells (Some k)
  of_line k (Login escape) idle = of_login k w.stored escape idle
  of_line k (Console escape) idle = of_console k escape (console_refusal w.stored w.desk w.console) refl idle
  of_line k (Enter text) idle = of_entered k (call_of text)
  of_line k Edit idle = Edits k _ (Is_seated _ (Opens (base_now (view_of z w)) refl idle))
  of_line k (Zonecfg text) idle = of_alone k text
  of_line k (Asks r) idle = of_request k r w.stored refl idle
  of_line k (Clone word) idle = of_clone k (name_of word) idle
  of_line k Unforced idle = Tells (Some k)
  of_line k (Kill signal pid) idle = of_signal (Some k) false signal pid (with_pid pid w.processes)
  of_line k (Hold dir) idle = of_hold (Some k) w.stored (held_answer true dir w.mounts) true dir
  of_line k (Release dir) idle = of_hold (Some k) w.stored (held_answer false dir w.mounts) false dir

  of_idle : (k : ℕ) (command : Command) → w.sessions k ≡ None → In (Acted (Some k)) (idle_line (view_of z w) command)
  of_idle k (Enter text) idle = of_line k (Enter text) idle
  of_idle k command idle = of_once (Some k) (idle_line (view_of z w) command) (of_line k command idle)

  of_typed : (k : ℕ) (d : Option Doing) → w.sessions k ≡ d → (line : Line) → In (Acted (Some k)) (typed (view_of z w) d line)
  unfolding typed view_of
  of_typed k None there line = of_idle k line.command there
  of_typed k (Some (Awaiting t)) there line = Once (Some k) None [] (Tells (Some k))
  of_typed k (Some (Editing e)) there line = of_once (Some k) (edits_line (view_of z w) e line.text) (of_edits k e line.text there)
  of_typed k (Some (Logged_in pid escape)) there line = of_once (Some k) (logged_line (view_of z w) pid escape line.text) (of_logged (Some k) pid escape line.text)
  of_typed k (Some (At_console escape)) there line = of_once (Some k) (console_line (view_of z w) escape line.text) (of_console_line k escape line.text there)

  -- what any of these keeps holds after each of them
  of_acts : (P : World → Type 0) → ((v : World) → P v → (n : Option ℕ) (c : Option Arrival) (es : List Zone_edit) → Does z v n c es → P (edits_world n es (after_came_world c v)))
      → P w → (n : Option ℕ) (c : Option Arrival) (es : List Zone_edit) → Acts z w n c es → P (edits_world n es (after_came_world c w))
  of_acts P does h _ _ _ (Once n c es d) = does w h n c es d
  of_acts P does h _ _ _ (Errand k pid name es running unasked) =
      let p = entered (kernel_of (objects_of w)) name false pid in
      let here = comes_world (New_process p) w in
      let came : P here = does w h (Some k) (Some (New_process p)) [] (Calls (Some k) _ [] (Comes k pid name running)) in
      let done : P (edits_world (Some k) es here) = does here came (Some k) None es (does_alone z here (Some k) es unasked) in
      subst P (sym (edits-then (Some k) es (Of_objects (Process_goes pid) ∷ []) here)) (does (edits_world (Some k) es here) done (Some k) None _ (Calls (Some k) None _ (Goes (Some k) pid)))

  -- so P holds after an event under a grant, where it holds of what a turn leaves then, and of all that another event may do
  pub by_acts : (P : World → Type 0) → ((n : Option ℕ) (c : Option Arrival) (es : List Zone_edit) → Acts z w n c es → P (edits_world n es (after_came_world c w)))
      → (g : Grant) → P (acts_world None (turned_act (turn_act w g)) w) → (e : Event) → P (acts_world (session_number e) (act_of (decide (view_of z w) e) g) w)
  unfolding decide view_of called
  by_acts P acts g h (Session n text) = let a = act_of (typed (view_of z w) (w.sessions n) (line_of text)) g in acts (Some n) a.came a.effect.edits (in-act (Acted (Some n)) (typed (view_of z w) (w.sessions n) (line_of text)) g (of_typed n (w.sessions n) refl (line_of text)))
  by_acts P acts g h (Call_of y pid c) = let a = act_of (called (view_of z w) pid c) g in acts None a.came a.effect.edits (Once None _ _ (in-act (Did None) (called (view_of z w) pid c) g (of_called None pid (with_pid pid w.processes) c refl)))
  by_acts P acts g h (System what) = acts None None [] (Once None None [] (Tells None))
  by_acts P acts g h Restart = acts None None [] (Once None None [] (Tells None))
  by_acts P acts g h (Turn y) = subst (λ (b : Act). P (acts_world None b w)) (sym (decide-turn z y w g)) h

  pub of_any : (P : World → Type 0) → ((v : World) → P v → (n : Option ℕ) (c : Option Arrival) (es : List Zone_edit) → Does z v n c es → P (edits_world n es (after_came_world c v)))
      → P w → (g : Grant) → P (acts_world None (turned_act (turn_act w g)) w) → (e : Event) → P (acts_world (session_number e) (act_of (decide (view_of z w) e) g) w)
  of_any P does h g turned e = by_acts P (of_acts P does h) g turned e

-- the same, by what it leaves stored, of the desk, the processes and the mounts. What becomes of the sessions and the console is left open
module _ (P : World → Type 0) (z : Name) (w : World) (seated : (sessions : ℕ → Option Doing) (console : consoles.Console) → P (record w { sessions = sessions; console = console }))
    (recorded : (stored : Option Record) (config : Contents) (m : ℕ) (sessions : ℕ → Option Doing) (console : consoles.Console) → w.stored ≡ stored
    → P (record w { stored = Some (committed_record z stored config m); sessions = sessions; console = console }))
    (removed : (row : Record) (sessions : ℕ → Option Doing) (console : consoles.Console) → w.stored ≡ Some row → is_configured (state_now row w.desk) ≡ true → has_request w.desk ≡ false
    → P (record w { stored = None; sessions = sessions; console = console }))
    (asked : (r : Request) (sessions : ℕ → Option Doing) → is_full w.desk ≡ false → P (record w { desk = with_request w.desk r; sessions = sessions }))
    (others : (n : Option ℕ) (c : Option Arrival) (es : List Zone_edit) → Called w n c es → P (edits_world n es (after_came_world c w)))
    (remounted : (e : List_edit MountEntry) → Mounted w.processes w.mounts e → P (record w { mounts = edited e w.mounts })) where
  abbrev here : ℕ → Option Doing → ℕ → Option Doing
  here k d = λ j. at_session (Some k) j d (w.sessions j)

  abbrev here_gone : ℕ → Option Doing → ℕ → Option Doing
  here_gone k d = λ j. at_session (Some k) j d (swept_doing console_left (w.sessions j))

  pub of_does : (n : Option ℕ) (c : Option Arrival) (es : List Zone_edit) → Does z w n c es → P (edits_world n es (after_came_world c w))
  of_does _ _ _ (Tells n) = seated w.sessions w.console
  of_does _ _ _ (Edits k es s) = at_seat es s
    where
      at_seat : (es : List Zone_edit) → Seated z w k es → P (edits_world (Some k) es w)
      at_seat _ Unseated = seated w.sessions w.console
      at_seat _ (Is_seated d s) = seated (here k d) w.console
  of_does _ _ _ (Records k stored config m es is says s) = at_seat es s (keeps_console (Some (committed_record z stored config m)))
    where
      at_seat : (es : List Zone_edit) → Seated z w k es → (keeps : Bool) → P (edits_world (Some k) es (console_gone_world keeps (record w { stored = Some (committed_record z stored config m) })))
      at_seat _ Unseated true = recorded stored config m w.sessions w.console is
      at_seat _ (Is_seated d s) true = recorded stored config m (here k d) w.console is
      at_seat _ Unseated false = recorded stored config m (λ j. swept_doing console_left (w.sessions j)) new_console is
      at_seat _ (Is_seated d s) false = recorded stored config m (here_gone k d) new_console is
  of_does _ _ _ (Removes k row es is e f s) = at_seat es s
    where
      at_seat : (es : List Zone_edit) → Seated z w k es → P (edits_world (Some k) es (console_gone_world false (record w { stored = None })))
      at_seat _ Unseated = removed row (λ j. swept_doing console_left (w.sessions j)) new_console is e f
      at_seat _ (Is_seated d s) = removed row (here_gone k d) new_console is e f
  of_does _ _ _ (Puts k r row is idle room) = asked r (here k (Some (Awaiting (w.desk.last + 1)))) room
  of_does _ _ _ (Calls n c es called) = others n c es called
  of_does _ _ _ (Remounts n e mounted) = remounted e mounted
  of_does _ _ _ (Consoles n es consoled) = at_console n es consoled
    where
      at_console : (n : Option ℕ) (es : List Zone_edit) → Consoled w n es → P (edits_world n es w)
      at_console _ _ (Writes n text) = seated w.sessions (edit_console n (Line_of text) w.console)
      at_console _ _ (Takes n) = seated w.sessions (edit_console n Take w.console)
      at_console _ _ (Attaches k escape idle free) = seated (here k (Some (At_console escape))) (edit_console (Some k) Hold_console w.console)
      at_console _ _ (Detaches k escape there) = seated (here k None) (edit_console (Some k) Leave w.console)

-- what each thing that a turn does keeps holds of what the turn leaves
module _ (P : World → Type 0) (objects : (e : Object_edit) (w : World) → P w → P (edit_world None (Of_objects e) w)) (desks : (d : Desk) (w : World) → P w → P (record w { desk = d }))
    (tickets : (t : ℕ) (w : World) → P w → P (edit_world None (Sweep (ticket_ended t)) w)) (comes : (c : Arrival) (w : World) → P w → P (comes_world c w)) where
  kept_edits : (es : List Object_edit) (d : Desk) (ended : Option ℕ) (w : World) → P w → P (edits_world None (map Of_objects es ++ Set_desk d ∷ sweeps ended) w)
  kept_edits [] d None w h = desks d w h
  kept_edits [] d (Some t) w h = tickets t (record w { desk = d }) (desks d w h)
  kept_edits (e ∷ es) d ended w h = kept_edits es d ended (edit_world None (Of_objects e) w) (objects e w h)

  pub kept_turn : (a : decisions.Act Arrival Turned) (w : World) → P w → P (acts_world None (turned_act a) w)
  kept_turn a w h = at_came a.came
    where
      at_came : (c : Option Arrival) → P (acts_world None (turned_act (record a { came = c })) w)
      at_came None = kept_edits a.effect.objects a.effect.desk a.effect.ended w h
      at_came (Some c) = kept_edits a.effect.objects a.effect.desk a.effect.ended (comes_world c w) (comes c w h)

-- what holds of what a turn leaves stored, of the mounts and of the desk holds of these in the world that it leaves
pub of_turned : (P : Option Record → List MountEntry → Desk → Type 0) (w : World) (g : Grant) → (let a = turn_act w g in P (stored_after a.came w.stored) (mounts_after a.effect.objects w.mounts) a.effect.desk)
    → (let v = acts_world None (turned_act (turn_act w g)) w in P v.stored v.mounts v.desk)
of_turned P w g h = let has = has-turned None (turn_act w g) w in rw (has.stored, has.mounts, has.desk) h
