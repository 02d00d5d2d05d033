-- What sessions begin with, and what ended them.
use Rattle.std.specs.Prelude.{◌≡◌, ◌+◌, ◌<◌, ℕ, List, [], ◌∷◌, Bool, true, false, Option, Some, None, length, nat_eq, slice_index_or, if◌then◌else◌}
use Rattle.brand_hooks.specs.Brands.{Tabled}
use Rattle.session_records.specs.Places.{place_of}
use Rattle.session_runs.specs.declared.far.Script.{Script as Script_of}
use Rattle.zn_base.specs.Names.{Name}
use Rattle.zone_cases.specs.State.Worlds.{world}
use Rattle.zone_cases.specs.declared.events.Subject.TheVariants.{Zone}
use Rattle.zone_disk.specs.Bank.{Account}
use Rattle.zone_machine.specs.Code.Partings.{HasNothing}
use Rattle.zone_machine.specs.declared.faults.StepFault.{StepFault}
use Rattle.zone_machine.specs.declared.faults.StepFault.TheVariants.{DiskFault, Memory}
use Rattle.zone_machine.specs.declared.machine.shared.Shared.{Shared}
use Rattle.zone_threads.specs.declared.run.Script.{Script}
use Rattle.daemon_threads.specs.Definitions.{CellIn, place_world, state_of}
use Rattle.daemon_threads.specs.Parts.{PartOf, commons}
use Rattle.daemon_threads.specs.declared.cell.PlaceCell.{PlaceCell}
use Rattle.daemon_threads.specs.declared.dealing.Dealt.{Dealt}
use Rattle.daemon_threads.specs.declared.past.Past.{Past}

-- in a state sessions may begin: what lies in each place has its world, a zone without a place has nothing, the rest has what is common,
-- and what is stored is what was stored when they began
pub record IsBegun {D : Type 0} (zones : List Name) (brands : List Tabled) (d : Dealt) (shared : Shared) (bank : Account D) (s : Past) : Type 0 where
  pub stored : s.stored ≡ (state_of brands s).commits
  pub cells : (i : ℕ) (x : PlaceCell) → i < length d.cells.items → CellIn brands (slice_index_or d.cells.items i x) (place_world zones (i + 1) (state_of brands s))
  pub others : (z : Name) → place_of zones (Zone z) ≡ 0 → HasNothing (world z (state_of brands s))
  pub part : PartOf (record { shared = shared; shown = d.shown; bank = bank }) (commons (state_of brands s))

-- what ended sessions: the disk, where it may be used no more, or else memory
abbrev pub ended_by : (is_sound is_ended : Bool) → Option StepFault
ended_by false is_ended = Some DiskFault
ended_by true true = Some Memory
ended_by true false = None

-- a script as threads take it
abbrev pub moved_script : Script_of → Script (List ℕ)
moved_script s = record { session = s.session; lines = s.lines }

-- the lines of each session by its number
abbrev pub script_lines : List (Script (List ℕ)) → ℕ → List (List ℕ)
script_lines [] n = []
script_lines (x ∷ xs) n = if nat_eq n x.session then x.lines.items else script_lines xs n
