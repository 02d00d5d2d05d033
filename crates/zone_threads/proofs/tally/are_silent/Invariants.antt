use Rattle.std.proofs.Common.{take}
use Rattle.zone_threads.specs.Scripts.{IsSilent}
use Rattle.zone_threads.proofs.tally.are_silent.Given as goal

abbrev pub invariant-loop-entry : goal.invariant-loop-entry
invariant-loop-entry g l = IsSilent g.M.Zoned.machine (take l.entry-index l.entries)
