use Rattle.std.proofs.Common.{sym}
use Rattle.config_terms.proofs.Alone.{one_from_first, several_from_first}
use Rattle.config_terms.proofs.matches.only_match.Goals as goal

pub returns-then-count-gt1-clause-answer : goal.returns-then-count-gt1-clause-answer
returns-then-count-gt1-clause-answer g c = several_from_first _ _ _ _ (sym c.in-Some.ensures) c.count_matches-count.ensures c.if-count-gt1.true

pub returns-clause-answer : goal.returns-clause-answer
returns-clause-answer g c = one_from_first _ _ _ _ (sym c.in-Some.ensures) c.count_matches-count.ensures c.if-count-gt1.false
