use Rattle.kernel_objects.proofs.Kept.{within-dropped, within-entered, within-forked, within-gone, within-none, within-renamed}
use Rattle.kernel_objects.proofs.laws.sets_lie_within_the_limit.Goals as goal

pub returns-clause-none : goal.returns-clause-none
returns-clause-none c = within-none

pub returns-clause-entered : goal.returns-clause-entered
returns-clause-entered c = within-entered

pub returns-clause-forked : goal.returns-clause-forked
returns-clause-forked c = within-forked

pub returns-clause-gone : goal.returns-clause-gone
returns-clause-gone c = within-gone

pub returns-clause-renamed : goal.returns-clause-renamed
returns-clause-renamed c = within-renamed

pub returns-clause-dropped : goal.returns-clause-dropped
returns-clause-dropped c = within-dropped
