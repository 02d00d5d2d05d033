use Rattle.zone_config.proofs.Settings.{sets}
use Rattle.zone_config.proofs.laws.sets_where_allowed.Goals as goal

pub returns : goal.returns
returns c = sets
