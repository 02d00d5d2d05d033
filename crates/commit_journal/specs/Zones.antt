-- The zones of a map by their names, in its order, as stored zones.
use Rattle.std.specs.Prelude.{List, map}
use Rattle.zn_base.specs.Names.{Name}
use Rattle.zone_pools.specs.Owned_lists.{tag}
use Rattle.commit_journal.specs.declared.records.Record.{Record}
use Rattle.commit_journal.specs.Stored.{Rows}

abbrev pub rows_of : List (Name × Record) → Rows
rows_of entries = map (λ e. tag e.0 e.1) entries
