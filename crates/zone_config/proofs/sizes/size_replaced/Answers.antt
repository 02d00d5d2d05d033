use Rattle.zone_config.proofs.ResourceEdits.{size_replaced}
use Rattle.zone_config.proofs.sizes.size_replaced.Goals as goal

pub overflow_sub-result : goal.overflow_sub-result
overflow_sub-result c = (size_replaced _ _ _ _ _ c.requires.kept (rw c.kind-kind.ensures at c.length_at.ensures)).within
