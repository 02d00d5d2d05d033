use Rattle.std.proofs.Common.{◌≡◌, false, arith}
use Rattle.zone_config.specs.Resources.{has_taken_but}
use Rattle.zone_config.proofs.ResourceEdits.{kept_replaced}
use Rattle.zone_config.proofs.config.ZoneConfig.put_in_place.Goals as goal

pub invariant_of-self : goal.invariant_of-self
invariant_of-self c =
    let free : has_taken_but c.args.place c.args.resource c.self.inside.contents ≡ false = rw c.self.view_is c.requires.free in
    rw c.replace.ensures (kept_replaced _ _ _ _ _ c.self.invariant c.requires.allowed free c.requires.few c.size_replaced-size.ensures (omega arith))
