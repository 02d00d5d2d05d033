use Rattle.zone_views.proofs.Whole.{declared-decides, declared-stays}
use Rattle.zone_views.proofs.laws.declarations_are_common.Goals as goal

pub returns-clause-whole : goal.returns-clause-whole
returns-clause-whole c = declared-decides

pub returns-clause-declared : goal.returns-clause-declared
returns-clause-declared c = declared-stays
