use Rattle.grant_text.proofs.Splits.{read_back}
use Rattle.grant_text.proofs.laws.grants_are_read_back.Goals as goal

pub returns : goal.returns
returns c = read_back
