use Rattle.zone_views.proofs.Mounts_few.{few-after}
use Rattle.zone_views.proofs.laws.mounts_are_few.Goals as goal

pub returns : goal.returns
returns c = few-after
