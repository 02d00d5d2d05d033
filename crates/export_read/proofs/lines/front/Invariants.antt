use Rattle.std.proofs.Common.{◌≡◌, ◌++◌, take}
use Rattle.zn_base.specs.Lines.{lines_of}
use Rattle.export_read.specs.Lines.{ended}
use Rattle.export_read.proofs.lines.front.Given as goal

abbrev pub invariant-loop-left : goal.invariant-loop-left
invariant-loop-left l = l.front.items ++ ended (take l.left (lines_of l.rest)) ≡ ended (take l.count (lines_of l.text))

abbrev pub decreases-loop-left : goal.decreases-loop-left
decreases-loop-left l = l.left
