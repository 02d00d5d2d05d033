use Rattle.zone_views.proofs.Under_way.{local-leaves-history}
use Rattle.zone_views.proofs.laws.local_turns_leave_what_is_common.Goals as goal

pub returns : goal.returns
returns c = local-leaves-history
