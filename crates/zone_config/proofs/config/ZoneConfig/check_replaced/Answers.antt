use Rattle.zone_config.proofs.ResourceEdits.{apart_if_kept}
use Rattle.zone_config.proofs.config.ZoneConfig.check_replaced.Goals as goal

pub has_taken_but-requires-clause-once : goal.has_taken_but-requires-clause-once
has_taken_but-requires-clause-once c = apart_if_kept _ _ _ c.self.invariant
