use Rattle.kernel_objects.proofs.Kept.{nothing_is}
use Rattle.kernel_objects.proofs.laws.an_empty_zone_has_nothing.Goals as goal

pub returns : goal.returns
returns c = nothing_is
