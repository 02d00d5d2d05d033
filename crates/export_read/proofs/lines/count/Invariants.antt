use Rattle.std.proofs.Common.{◌≡◌, ◌+◌, length}
use Rattle.zn_base.specs.Lines.{lines_of}
use Rattle.export_read.proofs.lines.count.Given as goal

abbrev pub invariant-loop-rest : goal.invariant-loop-rest
invariant-loop-rest l = l.number + length (lines_of l.rest) ≡ length (lines_of l.text)

abbrev pub decreases-loop-rest : goal.decreases-loop-rest
decreases-loop-rest l = length l.rest
