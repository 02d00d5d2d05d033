-- What a line does that a session types.
use Rattle.std.specs.Prelude.{ℕ, List, [], ◌∷◌, ◌+◌, Bool, true, false, Option, Some, None, Result, Ok as Right, Err, if◌then◌else◌}
use Rattle.zn_base.specs.Names.{Name, name_of}
use Rattle.zone_cases.specs.Session.Commits.{edits_line, opens, zonecfg}
use Rattle.zone_cases.specs.State.Decisions.{Decision, Effect, answers, done_saying, refused, says, tells, told}
use Rattle.zone_pools.specs.Decisions.{Just}
use Rattle.zoneadmd_steps.specs.Desks.{Desk, is_full, with_request}
use Rattle.zone_cases.specs.State.Edits.{Here, Set_desk}
use Rattle.loopback_mounts.specs.Mounts.{at_dir, hold_answer, release_answer, with_hold}
use Rattle.loopback_mounts.specs.declared.faults.HoldFault.{HoldFault}
use Rattle.loopback_mounts.specs.declared.mount.MountEntry.{MountEntry}
use Rattle.loopback_mounts.specs.declared.faults.HoldFault.TheVariants.{HoldState as Wrong_hold, NoMount as No_such_mount}
use Rattle.zone_pools.specs.Owned_lists.{Change}
use Rattle.zoneadmd_steps.specs.Objects.{Object_edit, Of_mounts, kernel_of}
use Rattle.zone_cases.specs.Calls.{changes, signals}
use Rattle.kernel_objects.specs.declared.faults.Errno.TheVariants.{ESRCH}
use Rattle.zn_base.specs.declared.name.NameFault.{NameFault}
use Rattle.zone_cases.specs.Session.Logins.{console_line, entered_line, holds_console, logged_line, logs_in}
use Rattle.process_calls.specs.Calls.{Said, call_of}
use Rattle.zone_cases.specs.Session.Lines.{Ask as Asks, Blank, Clone, Command, Console, Edit, Enter, Help, Hold, Kill, Line, List_one, List_zones, Login, Release, Unforced, Unknown, Verify, Zonecfg}
use Rattle.zone_cases.specs.Session.Listed.{help_line, list_one_reply, list_zones_reply, verify_reply}
use Rattle.zone_cases.specs.State.{At_console, Awaiting, Doing, Editing, Logged_in, State}
use Rattle.zone_cases.specs.State.Worlds.{View, objects_of}
use Rattle.zoneadmd_steps.specs.declared.requests.Request.{Request}
use Rattle.zoneadmd_steps.specs.declared.requests.Request.TheVariants as request
use Rattle.commit_journal.specs.declared.records.Record.{Record}
use Rattle.zone_cases.specs.declared.replies.Body.TheVariants.{Lines}
use Rattle.zone_cases.specs.declared.replies.Head.TheVariants.{Ok, Ticket, Refused}
use Rattle.zone_cases.specs.declared.replies.Refusal.{Refusal}
use Rattle.zone_cases.specs.declared.replies.Refusal.TheVariants.{BadName, NeedForce, NoZone, Waiting, DeskFull, Usage, HoldState, NoMount, Errno as Of_errno}
use Rattle.zone_cases.specs.declared.replies.Reply.{Reply}

-- a request is put on the zone's desk, and the session waits for its ticket
abbrev pub put_request : Desk → Request → Option Record → Effect
put_request d request None = refused NoZone
put_request d request (Some row) =
    if is_full d then refused DeskFull
    else done_saying (Set_desk (with_request d request) ∷ Here (Some (Awaiting (d.last + 1))) ∷ [])
    (Ticket (d.last + 1))

-- the source of a clone is looked at for its name alone
abbrev pub put_clone : Desk → Result Name NameFault → Option Record → Effect
put_clone d (Err fault) stored = refused (BadName fault)
put_clone d (Right source) stored = put_request d (request.Clone source) stored

-- whether a mount may be held, or released
abbrev pub held_answer : Bool → List ℕ → List MountEntry → Result (Unit {0}) HoldFault
held_answer true dir ms = hold_answer dir ms
held_answer false dir ms = release_answer dir ms

-- the global zone holds a mount of a zone that is stored, or does so no more
abbrev pub hold_refusal : HoldFault → Refusal
hold_refusal Wrong_hold = HoldState
hold_refusal No_such_mount = NoMount

abbrev pub hold_changes : Object_edit → Result (Unit {0}) HoldFault → Decision
hold_changes e (Err fault) = Just (refused (hold_refusal fault))
hold_changes e (Right done) = changes e

abbrev pub holds : Option Record → Result (Unit {0}) HoldFault → Object_edit → Decision
holds None answer e = Just (refused NoZone)
holds (Some row) answer e = hold_changes e answer

abbrev pub holding_at : Bool → List ℕ → Object_edit
holding_at held dir = Of_mounts (Change (at_dir dir (with_hold held)))

abbrev pub idle_line : View → Command → Decision
idle_line v Blank = Just (done_saying [] Ok)
idle_line v Edit = opens v
idle_line v (Zonecfg text) = zonecfg v text
idle_line v (Asks request) = Just (put_request v.world.desk request v.world.stored)
idle_line v (Clone word) = Just (put_clone v.world.desk (name_of word) v.world.stored)
idle_line v Unforced = Just (refused NeedForce)
idle_line v (Kill signal pid) = signals false signal pid (v.process pid)
idle_line v (Hold dir) = holds v.world.stored (held_answer true dir v.world.mounts) (holding_at true dir)
idle_line v (Release dir) = holds v.world.stored (held_answer false dir v.world.mounts) (holding_at false dir)
idle_line v (Login escape) = logs_in escape v.world.stored v.world.desk (kernel_of (objects_of v.world))
idle_line v (Console escape) = holds_console escape v.world.stored v.world.desk v.world.console
idle_line v (Enter text) = entered_line v (call_of text)
idle_line v Help = Just (tells (Lines (help_line ∷ [])))
idle_line v Verify = Just (answers (verify_reply v.world.brands v.world.stored))
idle_line v (List_one form) = Just (answers (list_one_reply v.zone form v.world.stored v.world.desk v.world.ids))
-- it names no zone, so none has such a line
idle_line v (List_zones options) = Just (refused Usage)
idle_line v Unknown = Just (refused Usage)

-- by what the session does in the zone. One that edits says every line to its editor, and one that is logged in or at the console
-- says it there
unfoldable pub typed : View → Option Doing → Line → Decision
typed v None line = idle_line v line.command
typed v (Some (Awaiting t)) line = Just (refused (Waiting t))
typed v (Some (Editing e)) line = edits_line v e line.text
typed v (Some (Logged_in pid escape)) line = logged_line v pid escape line.text
typed v (Some (At_console escape)) line = console_line v escape line.text

-- a line that belongs to no zone: it names none, or none with a right name
abbrev pub badly_named : Option (List ℕ) → Refusal
badly_named None = Usage
badly_named (Some word) = elim (name_of word) as (λ r. Refusal) [
  | Right z ↦ Usage
  | Err fault ↦ BadName fault
]

-- where it names no zone at all, it is told what zoneadm(8) can be asked for
abbrev pub global_help : Option (List ℕ) → Reply
global_help None = told (Lines (help_line ∷ []))
global_help (Some word) = says (Refused (badly_named (Some word)))

-- what is no call is no line, whatever the name
abbrev pub badly_entered : Said → Option (List ℕ) → Refusal
badly_entered (Err fault) word = Usage
badly_entered (Right c) word = badly_named word

-- what such a line is answered
abbrev pub global_line : State → Line → Reply
global_line S line = elim line.command as (λ c. Reply) [
  | Blank ↦ says Ok
  | Help ↦ global_help line.zone
  | List_zones options ↦ list_zones_reply options S
  | Unknown ↦ says (Refused Usage)
  | Enter text ↦ says (Refused (badly_entered (call_of text) line.zone))
  | Kill signal pid ↦ says (Refused (Of_errno ESRCH))
  | _ ↦ says (Refused (badly_named line.zone))
]
