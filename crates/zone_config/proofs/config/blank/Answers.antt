use Rattle.zone_config.proofs.PropertyEdits.{blank_kept}
use Rattle.zone_config.proofs.config.blank.Goals as goal

pub invariant_of-result : goal.invariant_of-result
invariant_of-result c = rw c.blank.ensures blank_kept
