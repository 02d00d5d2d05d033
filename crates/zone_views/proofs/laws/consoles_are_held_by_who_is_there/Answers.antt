use Rattle.zone_views.proofs.Consoles.{holder-history, held-history}
use Rattle.zone_views.proofs.laws.consoles_are_held_by_who_is_there.Goals as goal

pub returns-clause-holder : goal.returns-clause-holder
returns-clause-holder c = holder-history

pub returns-clause-there : goal.returns-clause-there
returns-clause-there c = held-history
