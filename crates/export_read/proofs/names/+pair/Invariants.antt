use Rattle.std.proofs.Common.{length}
use Rattle.export_read.proofs.names.+pair.Given as goal

abbrev pub decreases-pair : goal.decreases-pair
decreases-pair l = length l.firsts.now
