use Rattle.zone_views.proofs.Few_turns.{turns-few}
use Rattle.zone_views.proofs.Small_zones.{stays-small}
use Rattle.zone_views.proofs.laws.zones_stay_small.Goals as goal

pub returns-clause-small : goal.returns-clause-small
returns-clause-small c = stays-small

pub returns-clause-turns : goal.returns-clause-turns
returns-clause-turns c = turns-few
