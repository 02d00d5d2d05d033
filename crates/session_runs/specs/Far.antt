-- How far scripts are, and what an entry changes of that.
use Rattle.std.specs.Prelude.{◌≡◌, ◌<◌, ℕ, List, [], ◌∷◌, Option, Some, None, drop, length, nat_eq, slice_index_or, if◌then◌else◌}
use Rattle.zone_cases.specs.declared.events.Entry.{Entry}
use Rattle.zone_cases.specs.declared.events.Event.{Event}
use Rattle.zone_cases.specs.declared.replies.Head.{Head}
use Rattle.session_records.specs.Records as records
use Rattle.session_records.specs.Records.{Scripts, ends}
use Rattle.session_records.specs.Scripts.{Progress}
use Rattle.session_runs.specs.declared.far.Awaited.{Awaited}
use Rattle.session_runs.specs.declared.far.Far.{Far}
use Rattle.session_runs.specs.declared.far.Script.{Script}

-- each session's script, by its number. A session that has none types nothing
abbrev pub scripts_of : List Script → Scripts
scripts_of [] n = []
scripts_of (s ∷ ss) n = if nat_eq n s.session then s.lines.items else scripts_of ss n

-- this stands at an index of a list
abbrev pub IsAt : {A : Type 0} → List A → ℕ → A → Type 0
IsAt {A} xs i x = (d : A) → slice_index_or xs i d ≡ x

-- no two scripts are of one session
abbrev pub Differ : List Script → Type 0
Differ scripts = (i j : ℕ) (s : Script) → i < length scripts → j < length scripts → (slice_index_or scripts i s).session ≡ (slice_index_or scripts j s).session → i ≡ j

-- what a session waits for
abbrev pub wait_of : Awaited → records.Awaited
wait_of w = record { zone = w.zone; ticket = w.ticket }

abbrev pub waits_of : Option Awaited → Option records.Awaited
waits_of None = None
waits_of (Some w) = Some (wait_of w)

-- how far a session is whose script is so far
abbrev pub progress_of : Script → Far → Progress
progress_of s f = record { left = drop f.done s.lines.items; waits = waits_of f.awaits }

-- each script is so far
pub record AreFar (scripts : List Script) (far : List Far) (p : ℕ → Progress) : Type 0 where
  pub same : length far ≡ length scripts
  pub each : (i : ℕ) (s : Script) (f : Far) → i < length scripts → p (slice_index_or scripts i s).session ≡ progress_of (slice_index_or scripts i s) (slice_index_or far i f)

-- a turn ends the waits that it ends
abbrev pub awaits_after : Event → Head → Option Awaited → Option Awaited
awaits_after e head None = None
awaits_after e head (Some w) = if ends (wait_of w) e head then None else Some w

abbrev pub far_after : Entry → Far → Far
far_after e f = record { done = f.done; awaits = awaits_after e.event e.reply.head f.awaits }
