use Rattle.std.proofs.Common.{◌≡◌, length}
use Rattle.zn_base.specs.Lines.{lines_of}
use Rattle.export_read.specs.Drafts.{drafted, start}
use Rattle.export_read.proofs.reader.drafted.Given as goal

abbrev pub invariant-loop-rest : goal.invariant-loop-rest
invariant-loop-rest l = drafted (lines_of l.rest) l.draft ≡ drafted (lines_of l.text) start

abbrev pub decreases-loop-rest : goal.decreases-loop-rest
decreases-loop-rest l = length l.rest
