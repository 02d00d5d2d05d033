use Rattle.std.proofs.Common.{◌≡◌, false, take}
use Rattle.commit_journal.specs.Zones.{rows_of}
use Rattle.zone_machine.specs.Machine.Pools.{path_taken}
use Rattle.zone_machine.proofs.machine.pools.path_taken.Given as goal

abbrev pub invariant-loop-at : goal.invariant-loop-at
invariant-loop-at l = path_taken (rows_of (take l.at l.rows.entries)) l.zone l.path ≡ false
