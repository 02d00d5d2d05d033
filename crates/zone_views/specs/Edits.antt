-- What a session edits, by what was said to its editor.
use Rattle.std.specs.Prelude.{ℕ, List, Option, Some, None}
use Rattle.zonecfg_scopes.specs.Edited.{Edited, IsAfter}
use Rattle.zone_cases.specs.State.{At_console, Awaiting, Doing, Editing, Logged_in}

-- what an editor holds is what some subcommands denote over its base
pub record IsDenoted (e : Edited) : Type 0 where
  pub said : List (List ℕ)
  pub denotes : IsAfter said e

-- the same of what a session does, where it edits
abbrev pub EditsDenoted : Option Doing → Type 0
EditsDenoted None = Unit {0}
EditsDenoted (Some (Awaiting t)) = Unit {0}
EditsDenoted (Some (Editing e)) = IsDenoted e
EditsDenoted (Some (Logged_in pid escape)) = Unit {0}
EditsDenoted (Some (At_console escape)) = Unit {0}
