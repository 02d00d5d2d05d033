use Rattle.zone_views.proofs.Naming_laws.{entries-own, names-own}
use Rattle.zone_views.proofs.laws.replies_name_own_objects.Goals as goal

pub returns-clause-events : goal.returns-clause-events
returns-clause-events c = names-own

pub returns-clause-entries : goal.returns-clause-entries
returns-clause-entries c = entries-own
