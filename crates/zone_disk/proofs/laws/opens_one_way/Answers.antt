use Rattle.zone_disk.proofs.Outcome.{one_way}
use Rattle.zone_disk.proofs.laws.opens_one_way.Goals as goal

pub returns : goal.returns
returns c = one_way
