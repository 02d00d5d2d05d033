use Rattle.zone_disk.proofs.Unique.{stands_unique}
use Rattle.zone_disk.proofs.laws.stands_for_one.Goals as goal

pub returns : goal.returns
returns c = stands_unique
