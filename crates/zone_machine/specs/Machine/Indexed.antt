-- The index of what is stored.
use Rattle.std.specs.Prelude.{List, [], ◌∷◌, Option, Some, None, map}
use Rattle.zn_base.specs.Names.{Name}
use Rattle.config_terms.specs.Fields.{path_text}
use Rattle.commit_journal.specs.Stored.{stored}
use Rattle.commit_journal.specs.declared.records.Commit.{Commit}
use Rattle.commit_journal.specs.declared.records.Record.{Record}
use Rattle.index_file.specs.declared.rows.IndexRow.{IndexRow}
use Rattle.zone_pools.specs.Owned_lists.{tag}
use Rattle.zone_pools.specs.declared.owned.Owned.{Owned}

-- a zone with its stored state, its zonepath and its UUID
abbrev pub index_row : Owned Record → IndexRow
index_row o = record { name = o.zone; state = o.it.state; path = path_text o.it.config.zonepath; uuid = o.it.uuid }

-- the rows of an entry of a map of stored zones, if there is one
abbrev pub row_at : Option (Name × Record) → List IndexRow
row_at None = []
row_at (Some e) = index_row (tag e.0 e.1) ∷ []

-- a row for each stored zone, in the order in which they were made
abbrev pub index_of : List Commit → List IndexRow
index_of commits = map index_row (stored commits)
