use Rattle.std.proofs.Common.{length}
use Rattle.commit_journal.proofs.reading.+number.Given as goal

abbrev pub decreases-number : goal.decreases-number
decreases-number l = length l.digits.now
