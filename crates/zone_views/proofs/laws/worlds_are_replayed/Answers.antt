use Rattle.zone_views.proofs.Purge.{world-after}
use Rattle.zone_views.proofs.laws.worlds_are_replayed.Goals as goal

pub returns : goal.returns
returns c = world-after
