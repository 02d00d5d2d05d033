use Rattle.std.proofs.Common.{◌≡◌, true, arith}
use Rattle.config_terms.specs.Rules.{obeys}
use Rattle.zone_config.specs.Property.{property_rule}
use Rattle.zone_config.proofs.PropertyEdits.{fits_obeyed, kept_with, shown_obeyed}
use Rattle.zone_config.proofs.config.ZoneConfig.set_kept.Goals as goal

pub size_with-size-requires-clause-shows : goal.size_with-size-requires-clause-shows
size_with-size-requires-clause-shows c =
    let allowed : obeys (property_rule c.args.property) c.args.value ≡ true = grind arith in
    rw c.bytes-2.ensures.bytes (shown_obeyed c.args.property c.args.value _ allowed)

pub invariant_of-self-2 : goal.invariant_of-self-2
invariant_of-self-2 c =
    let allowed : obeys (property_rule c.args.property) c.args.value ≡ true = grind arith in
    rw c.in_ok-put.ensures.ok
    (kept_with c.args.property c.args.value _ _ _ c.self.invariant (shown_obeyed c.args.property c.args.value _ allowed) (fits_obeyed _ _ allowed)
    (rw (← c.bytes-2.ensures.bytes) c.size_with-size.ensures) (omega arith))
