use Rattle.commit_journal.proofs.Applied.{stored-push}
use Rattle.commit_journal.proofs.laws.applies_one_by_one.Goals as goal

pub returns : goal.returns
returns c = stored-push
