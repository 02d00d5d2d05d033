use Rattle.zone_views.proofs.Numbered.{held-once-history}
use Rattle.zone_views.proofs.laws.zones_share_no_process_number.Goals as goal

pub returns : goal.returns
returns c = held-once-history
