-- What the code has of a zone that it tells of, as the definitions have it.
use Rattle.std.specs.Prelude.{ℕ, List, [], ◌∷◌, filter, map, Option, Some, None}
use Rattle.commit_journal.specs.declared.records.Record.{Record}
use Rattle.zn_base.specs.Names.{Name}
use Rattle.zone_machine.specs.Code.Cells.{cell_at, outside_in}
use Rattle.zone_cases.specs.Code.Cells.{world_or_empty}
use Rattle.zone_cases.specs.Session.Listed.{Zone_row, is_listed, row_now, row_text}
use Rattle.zone_machine.specs.declared.machine.parts.Parts.{Parts}
use Rattle.zone_cases.specs.declared.session.listing.Options.{Options}

-- what is told of a stored zone, by the machine's parts
abbrev pub row_in_parts : Parts → Name → Record → Zone_row
row_in_parts p z row = row_now z row (world_or_empty (outside_in z p.shared) (cell_at z p)).desk (world_or_empty (outside_in z p.shared) (cell_at z p)).ids

-- the lines of some of the stored zones
abbrev pub told_rows : Options → List Zone_row → List (List ℕ)
told_rows o rows = map (row_text o.form) (filter (λ r. is_listed o r.state) rows)

abbrev pub told_entries : Options → Parts → List (Name × Record) → List (List ℕ)
told_entries o p es = told_rows o (map (λ e. row_in_parts p e.0 e.1) es)

-- the lines of one of them, if there is one
abbrev pub told_entry : Options → Parts → Option (Name × Record) → List (List ℕ)
told_entry o p None = []
told_entry o p (Some e) = told_rows o (row_in_parts p e.0 e.1 ∷ [])
