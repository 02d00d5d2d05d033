use Rattle.zone_views.proofs.Claiming.{one-holder}
use Rattle.zone_views.proofs.laws.each_item_has_one_holder.Goals as goal

pub returns : goal.returns
returns c = one-holder
