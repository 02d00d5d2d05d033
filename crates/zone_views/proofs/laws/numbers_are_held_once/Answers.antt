use Rattle.zone_views.proofs.Numbered.{numbered-history}
use Rattle.zone_views.proofs.laws.numbers_are_held_once.Goals as goal

pub returns-clause-pids : goal.returns-clause-pids
returns-clause-pids c = λ brands commits h is. (numbered-history brands commits h is).pids

pub returns-clause-zids : goal.returns-clause-zids
returns-clause-zids c = λ brands commits h is. (numbered-history brands commits h is).zids
