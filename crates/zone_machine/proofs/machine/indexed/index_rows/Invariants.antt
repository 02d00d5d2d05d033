use Rattle.std.proofs.Common.{◌≡◌, map, take}
use Rattle.commit_journal.specs.Zones.{rows_of}
use Rattle.zone_machine.specs.Machine.Indexed.{index_row}
use Rattle.zone_machine.proofs.machine.indexed.index_rows.Given as goal

abbrev pub invariant-loop-at : goal.invariant-loop-at
invariant-loop-at l = l.index.items ≡ map index_row (rows_of (take l.at l.rows.entries))
