use Rattle.std.proofs.Common.{◌≡◌, ◌++◌, length}
use Rattle.zn_base.specs.Lines.{lines_of}
use Rattle.zn_base.proofs.cuts.lines.Given as goal

abbrev pub invariant-loop-at : goal.invariant-loop-at
invariant-loop-at l = l.lines ++ lines_of l.rest ≡ lines_of l.text

abbrev pub decreases-loop-at : goal.decreases-loop-at
decreases-loop-at l = length l.rest
