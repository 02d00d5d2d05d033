use Rattle.std.proofs.Common.{◌-◌}
use Rattle.export_read.proofs.ReadBack.{IsSearch}
use Rattle.export_read.proofs.reader.first_astray.Given as goal

abbrev pub invariant-loop-begun : goal.invariant-loop-begun
invariant-loop-begun l = IsSearch l.text l.begun l.astray

abbrev pub decreases-loop-begun : goal.decreases-loop-begun
decreases-loop-begun l = l.astray - l.begun
