use Rattle.commit_journal.proofs.OneText.{one_commit}
use Rattle.commit_journal.proofs.laws.one_commit_a_body.Goals as goal

pub returns : goal.returns
returns c = one_commit
