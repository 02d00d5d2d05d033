use Rattle.zone_views.proofs.Limits.{within-history}
use Rattle.zone_views.proofs.laws.sets_lie_within_limits.Goals as goal

pub returns : goal.returns
returns c = within-history
