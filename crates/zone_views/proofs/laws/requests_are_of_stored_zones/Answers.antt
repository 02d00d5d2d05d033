use Rattle.zone_views.proofs.Waiting.{record-history}
use Rattle.zone_views.proofs.laws.requests_are_of_stored_zones.Goals as goal

pub returns : goal.returns
returns c = record-history
