-- What the events of an input declare, and what its sessions type.
use Rattle.std.specs.Prelude.{◌≡◌, ◌≢◌, ◌<◌, ◌++◌, ◌∷◌, [], List}
use Rattle.std.specs.List.{All}
use Rattle.live_input.specs.Input.{IsNumbered}
use Rattle.session_records.specs.Records.{Scripts, typed_by}
use Rattle.session_runs.specs.Far.{Differ, scripts_of}
use Rattle.session_runs.specs.declared.far.Script.{Script}
use Rattle.zone_cases.specs.declared.events.Declaration.{Declaration}
use Rattle.zone_cases.specs.declared.events.Event.{Event}
use Rattle.zone_cases.specs.declared.events.Event.TheVariants.{Process, Restart, Session, System, Turn}
use Rattle.zones_live.specs.declared.sorting.Sorted.{Sorted}

abbrev pub declared_by : Event → List Declaration
declared_by (System what) = what ∷ []
declared_by (Session number text) = []
declared_by (Turn zone) = []
declared_by (Process zone pid call) = []
declared_by Restart = []

-- what events declare, in order
abbrev pub declared_in : List Event → List Declaration
declared_in [] = []
declared_in (e ∷ es) = declared_by e ++ declared_in es

-- what each session types, in order
abbrev pub typed_in : List Event → Scripts
typed_in [] n = []
typed_in (e ∷ es) n = typed_by n e ++ typed_in es n

-- a script is of a session whose number is from 1 to 64
abbrev pub HasNumber : Script → Type 0
HasNumber s = (s.session ≢ 0) × (s.session < 65)

-- declarations, and a script for each session that types something, are those of some events. Sessions have numbers from 1 to 64 where
-- those of the events do
pub record Sorts (events : List Event) (sorted : Sorted) : Type 0 where
  pub declared : sorted.declared.items ≡ declared_in events
  pub typed : scripts_of sorted.scripts.items ≡ typed_in events
  pub differ : Differ sorted.scripts.items
  pub sessions : All IsNumbered events → All HasNumber sorted.scripts.items
