use Rattle.zone_views.proofs.Claiming.{claims-declared, claims-once}
use Rattle.zone_views.proofs.Declared_few.{claims-bounded}
use Rattle.zone_views.proofs.laws.claimed_items_are_declared.Goals as goal

pub returns-clause-declared : goal.returns-clause-declared
returns-clause-declared c = claims-declared

pub returns-clause-once : goal.returns-clause-once
returns-clause-once c = claims-once

pub returns-clause-few : goal.returns-clause-few
returns-clause-few c = claims-bounded
