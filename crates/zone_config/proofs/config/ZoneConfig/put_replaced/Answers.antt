use Rattle.std.proofs.Common.{◌≡◌, Ok}
use Rattle.zone_config.specs.Resources.{length_of, with_replaced}
use Rattle.zone_config.proofs.ResourceEdits.{is_checked, kept_checked}
use Rattle.zone_config.proofs.config.ZoneConfig.put_replaced.Goals as goal

pub invariant_of-self : goal.invariant_of-self
invariant_of-self c =
    let checked : length_of (with_replaced c.args.place c.args.resource c.self.inside.contents) ≡ Ok c.args.size = rw c.self.view_is c.requires.checked in
    rw c.replace.ensures (kept_checked _ _ _ _ _ c.self.invariant checked)

pub returns : goal.returns
returns c = rw (c.replace.ensures, c.self.view_is) (is_checked c.args.resource c.args.place c.args.self.now c.args.size c.requires.checked).answer
