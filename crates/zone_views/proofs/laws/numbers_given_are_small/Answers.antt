use Rattle.zone_views.proofs.Small_numbers.{small-any, small-legal, small-pid, small-zid}
use Rattle.zone_views.proofs.laws.numbers_given_are_small.Goals as goal

pub returns-clause-pids : goal.returns-clause-pids
returns-clause-pids c = small-pid

pub returns-clause-zids : goal.returns-clause-zids
returns-clause-zids c = small-zid

pub returns-clause-all : goal.returns-clause-all
returns-clause-all c = small-any

pub returns-clause-legal : goal.returns-clause-legal
returns-clause-legal c = small-legal
