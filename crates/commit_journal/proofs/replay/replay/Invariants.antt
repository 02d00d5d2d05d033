use Rattle.std.proofs.Common.{take}
use Rattle.commit_journal.specs.Store.{HasZones}
use Rattle.commit_journal.specs.Zones.{rows_of}
use Rattle.commit_journal.proofs.replay.replay.Given as goal

abbrev pub invariant-loop-place : goal.invariant-loop-place
invariant-loop-place l = HasZones (take l.place l.bodies) (rows_of l.zones.entries)
