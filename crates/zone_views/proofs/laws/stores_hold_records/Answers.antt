use Rattle.zone_views.proofs.Naming_laws.{record-right, records-right}
use Rattle.zone_views.proofs.laws.stores_hold_records.Goals as goal

pub returns-clause-after : goal.returns-clause-after
returns-clause-after c = records-right

pub returns-clause-form : goal.returns-clause-form
returns-clause-form c = record-right
