-- What an event of a zone may do to the state. No edit names a zone: it is applied with the zone of its event.
use Rattle.std.specs.Prelude.{ℕ, List, [], ◌∷◌, ◌++◌, Bool, true, false, Option, Some, None, bytes_eq, nat_eq, if◌then◌else◌}
use Rattle.zn_base.specs.Names.{Name}
use Rattle.kernel_objects.specs.Processes.{Process, adopted, below, has_pid, heir, without_pid}
use Rattle.console_link.specs.Consoles.{Console, attached, detached, emptied, line_of, new_console, written}
use Rattle.datalink_table.specs.Claims.{claiming, holds}
use Rattle.datalink_table.specs.declared.claims.Claim.{Claim}
use Rattle.zone_pools.specs.Owned_lists.{Become, Change, Come, Go, Last_goes, Put, edit_list, edited, mine}
use Rattle.zone_pools.specs.declared.owned.Owned.{Owned}
use Rattle.zoneadmd_steps.specs.Arrivals.{Arrival, New_claim, New_id, New_process, New_record, No_new_thing}
use Rattle.zoneadmd_steps.specs.Desks.{Desk}
use Rattle.zoneadmd_steps.specs.Objects.{Devices_are, Ids_change, Ids_go, Last_claim_goes, Object_edit, Of_mounts, Process_goes, Processes_change, Processes_go, all_of, keeping_pid, keeping_zid}
use Rattle.zn_base.specs.declared.state.ZoneState.{ZoneState}
use Rattle.zn_base.specs.declared.state.ZoneState.TheVariants.{Installed}
use Rattle.commit_journal.specs.declared.records.Record.{Record}
use Rattle.zone_cases.specs.State.{At, At_console, Doing, Idle, Logged_in, Session, State}
use Rattle.zone_cases.specs.State.Worlds.{World}

-- what becomes of a zone's console
pub data Console_edit : Type 0 where
  -- the event's session has it from now on, and takes what is kept
  Hold : Console_edit
  Take : Console_edit
  -- no session has it any more
  Leave : Console_edit
  -- a line is written
  Line : (text : List ℕ) → Console_edit

pub data Edit : Type 0 where
  Of_objects : Object_edit → Edit
  -- the desk, the console, the event's own session, all sessions of the zone
  Set_desk : Desk → Edit
  Of_console : Console_edit → Edit
  Here : Option Doing → Edit
  Sweep : (Doing → Option Doing) → Edit

abbrev pub held_by : Option ℕ → Console → Console
held_by None c = c
held_by (Some n) c = attached n c

-- by an event that is typed in the session n or in none
abbrev pub edit_console : Option ℕ → Console_edit → Console → Console
edit_console n Hold c = emptied (held_by n c)
edit_console n Take c = emptied c
edit_console n Leave c = detached c
edit_console n (Line text) c = written (line_of text) c

abbrev pub session_of : Name → Option Doing → Session
session_of z None = Idle
session_of z (Some d) = At z d

abbrev pub swept : Name → (Doing → Option Doing) → Session → Session
swept z f Idle = Idle
swept z f (At y d) = if bytes_eq z y then session_of y (f d) else At y d

-- whoever is logged in with a process that goes is idle again
abbrev pub login_ended : ℕ → Doing → Option Doing
login_ended pid (Logged_in p escape) = if nat_eq pid p then None else Some (Logged_in p escape)
login_ended pid d = Some d

abbrev pub logins_ended : Doing → Option Doing
logins_ended (Logged_in p escape) = None
logins_ended d = Some d

-- and so is whoever is at a console that is no more
abbrev pub console_left : Doing → Option Doing
console_left (At_console escape) = None
console_left d = Some d

abbrev pub at_session : {A : Type 0} → Option ℕ → ℕ → A → A → A
at_session None k new old = old
at_session (Some n) k new old = if nat_eq n k then new else old

-- the children of a process of z that went get another parent
abbrev pub adopt_list : Name → (gone : ℕ) → List (Owned Process) → List (Owned Process)
adopt_list z gone os = edit_list z (Change (adopted gone (heir (mine z os)))) os

-- an edit of an event of z, which is typed in the session n or in none
unfoldable pub edit : Name → Option ℕ → Edit → State → State
edit z n (Of_objects (Processes_go p)) S = record S { processes = edit_list z (Go p) S.processes; sessions = λ k. swept z logins_ended (S.sessions k) }
edit z n (Of_objects (Process_goes pid)) S =
    record S { processes = adopt_list z pid (edit_list z (Go (has_pid pid)) S.processes); sessions = λ k. swept z (login_ended pid) (S.sessions k) }
edit z n (Of_objects (Processes_change f)) S = record S { processes = edit_list z (Change (keeping_pid f)) S.processes }
edit z n (Of_objects (Of_mounts e)) S = record S { mounts = edit_list z e S.mounts }
edit z n (Of_objects Last_claim_goes) S = record S { claims = edit_list z Last_goes S.claims }
edit z n (Of_objects (Devices_are ds)) S = record S { devices = edit_list z (Become ds) S.devices }
edit z n (Of_objects (Ids_go p)) S = record S { ids = edit_list z (Go p) S.ids }
edit z n (Of_objects (Ids_change f)) S = record S { ids = edit_list z (Change (keeping_zid f)) S.ids }
edit z n (Set_desk d) S = record S { desks = λ y. if bytes_eq z y then d else S.desks y }
edit z n (Of_console e) S = record S { consoles = λ y. if bytes_eq z y then edit_console n e (S.consoles y) else S.consoles y }
edit z n (Here d) S = record S { sessions = λ k. at_session n k (session_of z d) (S.sessions k) }
edit z n (Sweep f) S = record S { sessions = λ k. swept z f (S.sessions k) }

abbrev pub edits : Name → Option ℕ → List Edit → State → State
edits z n [] S = S
edits z n (e ∷ es) S = edits z n es (edit z n e S)

abbrev pub swept_doing : (Doing → Option Doing) → Option Doing → Option Doing
swept_doing f None = None
swept_doing f (Some d) = f d

-- the same edit, seen from the zone alone
abbrev pub edit_world : Option ℕ → Edit → World → World
edit_world n (Of_objects (Processes_go p)) w = record w { processes = edited (Go p) w.processes; sessions = λ k. swept_doing logins_ended (w.sessions k) }
edit_world n (Of_objects (Process_goes pid)) w = record w { processes = without_pid pid w.processes; sessions = λ k. swept_doing (login_ended pid) (w.sessions k) }
edit_world n (Of_objects (Processes_change f)) w = record w { processes = edited (Change (keeping_pid f)) w.processes }
edit_world n (Of_objects (Of_mounts e)) w = record w { mounts = edited e w.mounts }
edit_world n (Of_objects Last_claim_goes) w = record w { claims = edited Last_goes w.claims }
edit_world n (Of_objects (Devices_are ds)) w = record w { devices = edited (Become ds) w.devices }
edit_world n (Of_objects (Ids_go p)) w = record w { ids = edited (Go p) w.ids }
edit_world n (Of_objects (Ids_change f)) w = record w { ids = edited (Change (keeping_zid f)) w.ids }
edit_world n (Set_desk d) w = record w { desk = d }
edit_world n (Of_console e) w = record w { console = edit_console n e w.console }
edit_world n (Here d) w = record w { sessions = λ k. at_session n k d (w.sessions k) }
edit_world n (Sweep f) w = record w { sessions = λ k. swept_doing f (w.sessions k) }

abbrev pub edits_world : Option ℕ → List Edit → World → World
edits_world n [] w = w
edits_world n (e ∷ es) w = edits_world n es (edit_world n e w)

-- a claim comes last, unless the zone holds the item already
abbrev pub claim_list : Name → Claim → List (Owned Claim) → List (Owned Claim)
claim_list z c os = if holds c (mine z os) then os else edit_list z (Come c) os

-- a zone keeps its console with a record by which it is installed; by any other nothing of that is left
abbrev pub keeps_by : ZoneState → Bool
keeps_by Installed = true
keeps_by s = false

abbrev pub keeps_console : Option Record → Bool
keeps_console None = false
keeps_console (Some row) = keeps_by row.state

abbrev pub console_gone : Name → Bool → State → State
console_gone z true S = S
console_gone z false S = record S { consoles = λ y. if bytes_eq z y then new_console else S.consoles y; sessions = λ k. swept z console_left (S.sessions k) }

abbrev pub console_gone_world : Bool → World → World
console_gone_world true w = w
console_gone_world false w = record w { console = new_console; sessions = λ k. swept_doing console_left (w.sessions k) }

-- what comes. An id comes in place of the one that the zone had, if any
unfoldable pub comes : Name → Arrival → State → State
comes z (New_process p) S = record S { processes = edit_list z (Put (below p.pid) p) S.processes; last_pid = p.pid }
comes z (New_id i) S = record S { ids = edit_list z (Come i) (edit_list z (Go all_of) S.ids); last_zid = i.zid }
comes z (New_claim c) S = record S { claims = claim_list z c S.claims }
comes z (New_record row) S = console_gone z (keeps_console row) (record S { commits = S.commits ++ record { zone = z; stored = row } ∷ [] })
comes z No_new_thing S = S

abbrev pub comes_world : Arrival → World → World
comes_world (New_process p) w = record w { processes = edited (Put (below p.pid) p) w.processes }
comes_world (New_id i) w = record w { ids = i ∷ [] }
comes_world (New_claim c) w = record w { claims = claiming (holds c w.claims) c w.claims }
comes_world (New_record row) w = console_gone_world (keeps_console row) (record w { stored = row })
comes_world No_new_thing w = w
