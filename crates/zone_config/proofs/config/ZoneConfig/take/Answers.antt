use Rattle.zone_config.proofs.ResourceEdits.{leaves}
use Rattle.zone_config.proofs.config.ZoneConfig.take.Goals as goal

pub overflow_sub-self : goal.overflow_sub-self
overflow_sub-self c = rw (c.entry_length.ensures.same, c.kind.ensures) (leaves _ _ _ _ _ _ c.self.invariant c.remove-resource.ensures).within

pub invariant_of-self : goal.invariant_of-self
invariant_of-self c = rw (c.entry_length.ensures.same, c.kind.ensures) (leaves _ _ _ _ _ _ c.self.invariant c.remove-resource.ensures).kept
