-- What sessions do in a zone, by the code's pairs of a session and what it does.
use Rattle.std.specs.Prelude.{ℕ, List, [], ◌∷◌, Bool, true, false, Option, Some, None, nat_eq, ◌&&◌, if◌then◌else◌}
use Rattle.std.specs.Option.{option_map}
use Rattle.zone_cases.specs.State as state
use Rattle.zone_cases.specs.State.{At_console, Awaiting, Editing, Logged_in}
use Rattle.zone_cases.specs.State.Decisions.{ticket_ended}
use Rattle.zone_cases.specs.State.Edits.{Edit, Here, console_left, login_ended, logins_ended, swept_doing}
use Rattle.zone_cases.specs.State.Worlds.{World}
use Rattle.zone_cases.specs.declared.cases.Sitting.{Sitting}
use Rattle.zone_cases.specs.declared.session.doings.Doing.{Doing}
use Rattle.zone_cases.specs.declared.session.doings.Doing.TheVariants.{AtConsole, Awaits, Edits, LoggedIn}
use Rattle.zone_cases.specs.declared.session.doings.Ended.{Ended}
use Rattle.zone_cases.specs.declared.session.doings.Ended.TheVariants.{Console, Process, Processes, Ticket}

abbrev pub as_doing : Doing → state.Doing
as_doing (Awaits ticket) = Awaiting ticket
as_doing (Edits editor) = Editing editor
as_doing (LoggedIn pid escape) = Logged_in pid escape
as_doing (AtConsole escape) = At_console escape

-- something ends, and with it what a session does
abbrev pub ends_with : Ended → Doing → Bool
ends_with (Ticket t) (Awaits u) = nat_eq t u
ends_with (Process pid) (LoggedIn p escape) = nat_eq pid p
ends_with Processes (LoggedIn p escape) = true
ends_with Console (AtConsole escape) = true
ends_with e d = false

abbrev pub is_ended : Ended → Option Doing → Bool
is_ended e None = false
is_ended e (Some d) = ends_with e d

abbrev pub unless_ended : Ended → Option Doing → Option Doing
unless_ended e None = None
unless_ended e (Some d) = if ends_with e d then None else Some d

-- what the session k does ends, by one pair of a session and what it does
abbrev pub ends_there : Ended → ℕ → Option (ℕ × Doing) → Bool
ends_there e k None = false
ends_there e k (Some pair) = nat_eq pair.0 k && ends_with e pair.1

abbrev pub sweep_of : Ended → state.Doing → Option state.Doing
sweep_of (Ticket t) d = ticket_ended t d
sweep_of (Process pid) d = login_ended pid d
sweep_of Processes d = logins_ended d
sweep_of Console d = console_left d

-- the same of a zone's world
abbrev pub swept_by : Ended → World → World
swept_by e w = record w { sessions = λ k. swept_doing (sweep_of e) (w.sessions k) }

-- what becomes of the event's session
abbrev pub sits : Option Sitting → List Edit
sits None = []
sits (Some s) = Here (option_map as_doing s.doing) ∷ []
