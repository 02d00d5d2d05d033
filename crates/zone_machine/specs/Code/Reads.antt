-- An event as the code reads it once, as the definitions have it.
use Rattle.std.specs.Prelude.{ℕ, List, [], Bool, true, false, Option, Some, None, nat_eq}
use Rattle.kernel_objects.specs.Shared.{Shared as Kernel, pid_owner}
use Rattle.zone_cases.specs.Calls.{called}
use Rattle.zn_base.specs.Names.{Name}
use Rattle.zone_pools.specs.Decisions.{Just}
use Rattle.zone_cases.specs.State.Decisions.{Decision, done_saying, says}
use Rattle.zone_cases.specs.declared.replies.Head.TheVariants.{Ok}
use Rattle.zone_pools.specs.Owners.{owner}
use Rattle.zone_cases.specs.Session.Lines.{Command, Kill, Line, line_of}
use Rattle.zone_machine.specs.Machine.{decide, named_subject, turn}
use Rattle.zone_cases.specs.State.{State}
use Rattle.zone_cases.specs.State.Worlds.{view_of, View}
use Rattle.zone_cases.specs.declared.cell.Cell.{Cell}
use Rattle.zone_cases.specs.declared.events.Event.{Event}
use Rattle.zone_cases.specs.declared.events.Event.TheVariants as event
use Rattle.zone_cases.specs.declared.events.Subject.{Subject}
use Rattle.zone_cases.specs.declared.events.Subject.TheVariants.{Global, Whole, Zone}
use Rattle.zone_machine.specs.declared.machine.shared.Shared.{Shared}
use Rattle.zone_cases.specs.declared.replies.Reply.{Reply}
use Rattle.zone_machine.specs.declared.machine.reads.Read.TheVariants as read
use Rattle.zone_machine.specs.declared.machine.reads.Read.{Read}
use Rattle.zone_cases.specs.Session.Typed.{global_line, typed}
use Rattle.zone_cases.specs.Code.Lines.{IsRightLine, as_line}
use Rattle.zone_cases.specs.Code.Cells.{Outside, cell_world}

-- whose an event is, by the shared part
abbrev pub held_subject : Option Name → Subject
held_subject None = Global
held_subject (Some y) = Zone y

abbrev pub idle_subject : Option (List ℕ) → Kernel → Command → Subject
idle_subject word k (Kill signal pid) = held_subject (pid_owner k pid)
idle_subject word k _ = named_subject word

abbrev pub subject_at : Line → Kernel → Option Name → Subject
subject_at line k None = idle_subject line.zone k line.command
subject_at line k (Some y) = Zone y

abbrev pub subject_in : Shared → Event → Subject
subject_in s (event.Session n text) = subject_at (line_of text) s.kernel (owner nat_eq s.sessions n)
subject_in s (event.Turn z) = Zone z
subject_in s (event.Process z pid c) = Zone z
subject_in s (event.System what) = Whole
subject_in s event.Restart = Whole

-- an event as it is read once: whose it is, its case in a view, the session that it is typed in, and what it is answered where
-- it is no zone's
abbrev pub subject_read : Shared → Read → Subject
subject_read s (read.Line n line) = subject_at (as_line line) s.kernel (owner nat_eq s.sessions n)
subject_read s (read.Turn z) = Zone z.now
subject_read s (read.Process z pid c) = Zone z.now
subject_read s (read.System what) = Whole
subject_read s read.Restart = Whole

abbrev pub decide_read : View → Read → Decision
decide_read v (read.Line n line) = typed v (v.world.sessions n) (as_line line)
decide_read v (read.Turn z) = turn v
decide_read v (read.Process z pid c) = called v pid c.now
decide_read v (read.System what) = Just (done_saying [] Ok)
decide_read v read.Restart = Just (done_saying [] Ok)

abbrev pub number_read : Read → Option ℕ
number_read (read.Line n line) = Some n
number_read (read.Turn z) = None
number_read (read.Process z pid c) = None
number_read (read.System what) = None
number_read read.Restart = None

abbrev pub global_read : State → Read → Reply
global_read S (read.Line n line) = global_line S (as_line line)
global_read S (read.Turn z) = says Ok
global_read S (read.Process z pid c) = says Ok
global_read S (read.System what) = says Ok
global_read S read.Restart = says Ok

-- the case of an event of z, by its cell and what that hasn't
abbrev pub decide_in : Name → Outside → Cell → Event → Decision
decide_in z out c e = decide (view_of z (cell_world out c)) e

-- whether an event is a turn
abbrev pub is_turn : Event → Bool
is_turn (event.Session n text) = false
is_turn (event.Turn z) = true
is_turn (event.Process z pid c) = false
is_turn (event.System what) = false
is_turn event.Restart = false

abbrev pub is_turn_read : Read → Bool
is_turn_read (read.Line n line) = false
is_turn_read (read.Turn z) = true
is_turn_read (read.Process z pid c) = false
is_turn_read (read.System what) = false
is_turn_read read.Restart = false

-- what a line asks for is such
abbrev pub IsRightRead : Read → Type 0
IsRightRead (read.Line n line) = IsRightLine line
IsRightRead (read.Turn z) = Unit {0}
IsRightRead (read.Process z pid c) = Unit {0}
IsRightRead (read.System what) = Unit {0}
IsRightRead read.Restart = Unit {0}
