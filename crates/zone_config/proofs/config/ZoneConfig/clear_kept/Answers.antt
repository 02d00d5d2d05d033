use Rattle.std.proofs.Common.{arith}
use Rattle.zone_config.proofs.PropertyEdits.{fits_unset, kept_with, shown_unset}
use Rattle.zone_config.proofs.config.ZoneConfig.clear_kept.Goals as goal

pub invariant_of-self : goal.invariant_of-self
invariant_of-self c =
    rw c.unset.ensures
    (kept_with c.args.property _ _ _ _ c.self.invariant (shown_unset c.args.property _) (fits_unset c.args.property)
    (rw (← c.unset_text.ensures.text) c.size_with-size.ensures) (omega arith))
