-- The table of what the zones show, and what is listed of them by it.
use Rattle.indexmap.specs.IndexMap.{get_by}
use Rattle.std.specs.Prelude.{◌≡◌, ℕ, List, [], ◌∷◌, map, Option, Some, None, Bool, bytes_eq, is_some, unwrap_or}
use Rattle.commit_journal.specs.declared.records.Record.{Record}
use Rattle.zn_base.specs.Names.{Name}
use Rattle.zone_cases.specs.Session.Lines.{Command, List_zones}
use Rattle.zone_cases.specs.Session.Listed.{Zone_row, zone_row}
use Rattle.zone_cases.specs.State.{State}
use Rattle.zone_cases.specs.declared.session.listing.Options.{Options}
use Rattle.zone_machine.specs.Code.Listed.{told_rows}
use Rattle.zone_machine.specs.Shown.{nothing_shown, shown}
use Rattle.zone_machine.specs.declared.machine.shown.Shown.{Shown}
use Rattle.zone_machine.specs.declared.machine.shown.ShownZones.{ShownZones}

-- what a zone shows by the table
abbrev pub shown_in : ShownZones → Name → Shown
shown_in t z = unwrap_or (get_by (bytes_eq z) t.zones) nothing_shown

abbrev pub has_place : Name → ShownZones → Bool
has_place z t = is_some (get_by (bytes_eq z) t.zones)

-- the table has what the zones show in the state S
abbrev pub ShownOf : ShownZones → State → Type 0
ShownOf t S = (z : Name) → shown S z ≡ shown_in t z

-- what is told of a stored zone that shows this
abbrev pub row_shown : Name → Record → Shown → Zone_row
row_shown z row s = zone_row z row (unwrap_or s.active row.state) s.id

-- the lines of some of the stored zones
abbrev pub shown_entries : Options → ShownZones → List (Name × Record) → List (List ℕ)
shown_entries o t es = told_rows o (map (λ e. row_shown e.0 e.1 (shown_in t e.0)) es)

-- the lines of one of them, if there is one
abbrev pub shown_entry : Options → ShownZones → Option (Name × Record) → List (List ℕ)
shown_entry o t None = []
shown_entry o t (Some e) = told_rows o (row_shown e.0 e.1 (shown_in t e.0) ∷ [])

-- the options of a command that lists all zones
abbrev pub listed : Command → Option Options
listed (List_zones options) = Some options
listed command = None
