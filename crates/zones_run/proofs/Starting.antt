-- An event has come, or none has, after one more.
use Rattle.std.proofs.Common.{◌≡◌, ◌||◌, ℕ, true, List, Option, Some, None, Result, Ok, Err, sym}
use Rattle.std.proofs.Math.Bool.{or-false, or-true}
use Rattle.kernel_objects.specs.Processes.{Process}
use Rattle.zone_pools.specs.declared.grant.Grant.{Grant}
use Rattle.zone_pools.specs.declared.owned.Owned.{Owned}
use Rattle.zn_base.specs.Names.{Name, name_of}
use Rattle.zn_base.specs.declared.name.NameFault.{NameFault}
use Rattle.zone_machine.specs.Machine.{holder, line_subject, named_subject, one, one_of, session_subject, subject, subject_of_name}
use Rattle.zone_cases.specs.Session.Lines.{Ask, Blank, Clone, Command, Console, Edit, Enter, Help, Hold, Kill, Line, List_one, List_zones, Login, Release, Unforced, Unknown, Verify, Zonecfg, line_of}
use Rattle.zone_cases.specs.State.{At, Idle, Session as Session_mode, State}
use Rattle.zone_cases.specs.declared.events.Event.{Event}
use Rattle.zone_cases.specs.declared.events.Event.TheVariants.{Process as Call_of, Restart, Session, System, Turn}
use Rattle.zone_cases.specs.declared.events.Subject.{Subject}
use Rattle.zone_cases.specs.declared.events.Subject.TheVariants.{Zone, Global, Whole}
use Rattle.zones_run.specs.Scripts.{counts_event}

-- a zone, or the global zone
abbrev IsZone : Subject → Type 0
IsZone (Zone z) = Unit {0}
IsZone Global = Unit {0}
IsZone Whole = ⊥

of_name : (r : Result Name NameFault) → IsZone (subject_of_name r)
of_name (Ok z) = tt
of_name (Err fault) = tt

named : (word : Option (List ℕ)) → IsZone (named_subject word)
named None = tt
named (Some word) = of_name (name_of word)

held : (o : Option (Owned Process)) → IsZone (holder o)
held None = tt
held (Some o) = tt

of_line : (word : Option (List ℕ)) (os : List (Owned Process)) (c : Command) → IsZone (line_subject word os c)
of_line word os (Kill signal pid) = held _
of_line word os Blank = named word
of_line word os (Zonecfg text) = named word
of_line word os (Ask request) = named word
of_line word os (Clone source) = named word
of_line word os Unforced = named word
of_line word os (Hold dir) = named word
of_line word os (Release dir) = named word
of_line word os (Login escape) = named word
of_line word os (Console escape) = named word
of_line word os (Enter text) = named word
of_line word os Edit = named word
of_line word os Help = named word
of_line word os Verify = named word
of_line word os (List_one form) = named word
of_line word os (List_zones options) = named word
of_line word os Unknown = named word

of_session : (line : Line) (os : List (Owned Process)) (m : Session_mode) → IsZone (session_subject line os m)
of_session line os Idle = of_line line.zone os line.command
of_session line os (At y doing) = tt

-- an event of a zone has come
starts : (s : Subject) (S : State) (e : Event) (g : Grant) → IsZone s → (one_of s S e g).state.started ≡ (S.started || true)
starts (Zone z) S e g is = sym (or-true S.started)
starts Global S e g is = sym (or-true S.started)
starts Whole S e g is = absurd is

pub started_after : (S : State) (e : Event) (g : Grant) → (one S e g).state.started ≡ (S.started || counts_event e)
unfolding one subject
started_after S (Session n text) g = starts (session_subject (line_of text) S.processes (S.sessions n)) S (Session n text) g (of_session (line_of text) S.processes (S.sessions n))
started_after S (Turn z) g = sym (or-true S.started)
started_after S (Call_of z pid c) g = sym (or-true S.started)
started_after S (System what) g = sym (or-false S.started)
started_after S Restart g = sym (or-true S.started)
