use Rattle.zone_config.proofs.Clearing.{clears}
use Rattle.zone_config.proofs.laws.clears_where_named.Goals as goal

pub returns : goal.returns
returns c = clears
