use Rattle.commit_journal.proofs.Opening.{opens_one_way}
use Rattle.commit_journal.proofs.laws.opens_store_one_way.Goals as goal

pub returns : goal.returns
returns c = opens_one_way c.opens_one_way.ensures
