use Rattle.grant_text.proofs.Splits.{differ, one_way}
use Rattle.grant_text.proofs.laws.grants_are_split_one_way.Goals as goal

pub returns-clause-line : goal.returns-clause-line
returns-clause-line c = one_way

pub returns-clause-text : goal.returns-clause-text
returns-clause-text c = differ
