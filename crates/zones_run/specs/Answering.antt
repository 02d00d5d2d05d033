-- How an event or a line is answered in the midst of a trace: what the machine stands for then, what was written or waits, and
-- what the disk keeps.
use Rattle.std.specs.Prelude.{◌≡◌, ◌⊎◌, ℕ, List, [], true, false, Option, Some, None, Result, Ok, Err, if◌then◌else◌}
use Rattle.zn_io.specs.Disk.{View}
use Rattle.zn_io.specs.Streams.{after_known}
use Rattle.zone_machine.specs.Code.Decided.{entry_by}
use Rattle.zone_machine.specs.Machine.Images.{Goes}
use Rattle.zone_cases.specs.State.{State}
use Rattle.zone_cases.specs.declared.events.Answer.{Answer}
use Rattle.zone_cases.specs.Events.{is_restart}
use Rattle.zone_pools.specs.Pools.{or_else}
use Rattle.zones_run.specs.Recording.{GoesSurely}
use Rattle.zone_cases.specs.declared.events.Entry.{Entry}
use Rattle.zone_cases.specs.declared.replies.Head.{Head}
use Rattle.zones_run.specs.Run.{HasFront}
use Rattle.zones_run.specs.Scripting.{opened}
use Rattle.zones_run.specs.Scripts.{Restarts, Says, entry_for, fits_due, has_restart, state_for}
use Rattle.zones_run.specs.declared.due.Due.{Due}
use Rattle.zones_run.specs.declared.turns.Taken.{Taken}
use Rattle.zones_run.specs.Tracing.{entry_text, is_refusal}
use Rattle.zones_run.specs.declared.fault.RunFault.{RunFault}
use Rattle.zones_run.specs.declared.fault.RunFault.TheVariants.{Disk, Memory, Read, Write}
use Rattle.zones_run.specs.declared.outcome.Complaint.{Complaint}
use Rattle.zones_run.specs.declared.outcome.Complaint.TheVariants.{BadGrant as Bad_grant, Grammar as Bad_line, NotAStore}
use Rattle.zones_run.specs.declared.fault.Stop.{Stop}
use Rattle.zones_run.specs.declared.words.Mode.{Mode}
use Rattle.zones_run.specs.declared.fault.Stop.TheVariants.{BadGrant, Fault, Grammar, NoStore}

-- the machine answered an event that was due in the state S
pub record Steps (S : State) (d : Due) (a : Answer) (now_stands : State → Type 0) (v w : View) : Type 0 where
  pub fits : fits_due S d ≡ true
  pub told : entry_by d.event a ≡ entry_for S d
  pub stands : now_stands (state_for S d)
  pub goes : GoesSurely S.commits (state_for S d).commits v w

-- and its reply was put after what was written and what waited
pub record IsAnswered (mode : Mode) (S : State) (d : Due) (a : Answer) (now_stands : State → Type 0) (v w : View) (holds new_holds : Option (List ℕ)) : Type 0 where
  pub fits : fits_due S d ≡ true
  pub told : entry_by d.event a ≡ entry_for S d
  pub stands : now_stands (state_for S d)
  pub text : new_holds ≡ after_known holds (entry_text mode (entry_for S d))
  pub goes : GoesSurely S.commits (state_for S d).commits v w

-- what the disk keeps of an event at which a run ended: it is as it was, or memory ran out for the reply of an event that was
-- answered, or the disk failed in it
abbrev pub Fails : RunFault → (same : Type 0) → State → Due → (v w : View) → Type 0
Fails Memory same S d v w = same ⊎ ((fits_due S d ≡ true) × GoesSurely S.commits (state_for S d).commits v w)
Fails Disk same S d v w = (fits_due S d ≡ true) × Goes S.commits (state_for S d).commits v w
Fails fault same S d v w = same

-- what was written then, and what waits: all that did, unless standard output failed. Where the disk failed nothing waits
abbrev pub LeavesText : RunFault → (holds new_holds : Option (List ℕ)) → (waiting left : List ℕ) → Type 0
LeavesText Write holds new_holds waiting left = HasFront holds new_holds waiting × (left ≡ [])
LeavesText Disk holds new_holds waiting left = (after_known new_holds left ≡ after_known holds waiting) × (left ≡ [])
LeavesText Memory holds new_holds waiting left = after_known new_holds left ≡ after_known holds waiting
LeavesText Read holds new_holds waiting left = ⊥

-- the first refused line, once the line of a number was answered
abbrev pub refused_with : Option ℕ → ℕ → Head → Option ℕ
refused_with refused number head = if is_refusal head then or_else refused (Some number) else refused

-- what a line comes to whose event was answered
abbrev pub taken_by : Option ℕ → ℕ → Entry → Taken
taken_by refused number entry = record { refused = refused_with refused number entry.reply.head; opened = opened entry }

-- a line was taken: it is no event, or its event was answered, and the first refused line is reported
abbrev pub TakesEvent : Mode → State → Says → (now_stands : State → Type 0) → (same : Type 0) → (v w : View) → ℕ → Option ℕ → Taken → (holds new_holds : Option (List ℕ)) → Type 0
TakesEvent mode S (Ok None) now_stands same v w number refused taken holds new_holds =
    now_stands S × (taken ≡ record { refused = refused; opened = None }) × (new_holds ≡ holds) × same
TakesEvent mode S (Ok (Some d)) now_stands same v w number refused taken holds new_holds =
    (a : Answer) × IsAnswered mode S d a now_stands v w holds new_holds × (taken ≡ taken_by refused number (entry_for S d))
TakesEvent mode S (Err fault) now_stands same v w number refused taken holds new_holds = ⊥

-- what the disk keeps of a line at which a run ended
abbrev pub FailsLine : RunFault → (same : Type 0) → State → Says → (v w : View) → Type 0
FailsLine fault same S (Ok (Some d)) v w = Fails fault same S d v w
FailsLine fault same S said v w = same

-- an event that restarts the system under a grant that fits reads the store again, and finds it as it was left where the disk keeps to
-- its model
abbrev pub RestartsWellAt : State → Due → View → Type 0
RestartsWellAt S d v = is_restart d.event ≡ true → fits_due S d ≡ true → v.Keeps

abbrev pub RestartsWell : State → Says → View → Type 0
RestartsWell S (Ok (Some d)) v = RestartsWellAt S d v
RestartsWell S said v = Unit {0}

-- so each restart of an input does: the disk keeps to its model, or no line of the input restarts the system
abbrev pub FindsAlways : Mode → View → Option (List ℕ) → Type 0
FindsAlways mode v input = v.Keeps ⊎ ((bytes : List ℕ) × (input ≡ Some bytes) × (has_restart mode bytes ≡ false))

-- a line says an event whose stated grant doesn't fit
abbrev pub Misfits : State → Says → Type 0
Misfits S (Ok (Some d)) = fits_due S d ≡ false
Misfits S said = ⊥

-- why a line ends the trace: it is outside the grammar, a fault came, its grant doesn't fit, or a restart found no store
abbrev pub Stops : Stop → (same : Type 0) → State → Says → (v w : View) → Type 0
Stops (Grammar fault) same S said v w = (said ≡ Err fault) × same
Stops (Fault fault) same S said v w = FailsLine fault same S said v w
Stops BadGrant same S said v w = Misfits S said × same
Stops (NoStore fault) same S said v w = Restarts S said

-- an event under the grant that the pools give ends it only by a fault, or as a restart
abbrev pub IsFault : Stop → Type 0
IsFault (Fault fault) = Unit {0}
IsFault stop = ⊥

-- on a disk that keeps to its model a restart finds the store
abbrev pub MayStop : Stop → View → Type 0
MayStop (NoStore fault) v = v.Keeps → ⊥
MayStop stop v = Unit {0}

-- what it ends the trace with
abbrev pub ended_by : Stop → ℕ → Result (Option Complaint) RunFault
ended_by (Fault fault) number = Err fault
ended_by (Grammar fault) number = Ok (Some (Bad_line number fault))
ended_by BadGrant number = Ok (Some (Bad_grant number))
ended_by (NoStore fault) number = Ok (Some (NotAStore fault))

-- and what was written and waits then
abbrev pub StopsText : Stop → (holds new_holds : Option (List ℕ)) → (waiting left : List ℕ) → Type 0
StopsText (Fault fault) holds new_holds waiting left = LeavesText fault holds new_holds waiting left
StopsText stop holds new_holds waiting left = after_known new_holds left ≡ after_known holds waiting
