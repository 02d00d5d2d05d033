use Rattle.std.proofs.Common.{length}
use Rattle.threads_tests.proofs.runs.count_all.Given as goal

abbrev pub decreases-loop-entry : goal.decreases-loop-entry
decreases-loop-entry l = length l.entries
