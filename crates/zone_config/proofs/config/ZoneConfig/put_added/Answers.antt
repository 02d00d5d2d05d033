use Rattle.std.proofs.Common.{◌≡◌, Ok}
use Rattle.zone_config.specs.Resources.{length_of, with_resource}
use Rattle.zone_config.proofs.Adding.{checked_added}
use Rattle.zone_config.proofs.config.ZoneConfig.put_added.Goals as goal

pub invariant_of-self-2 : goal.invariant_of-self-2
invariant_of-self-2 c =
    let checked : length_of (with_resource c.args.resource c.self.inside.contents) ≡ Ok c.args.size = rw c.self.view_is c.requires in
    rw c.in_ok-add.ensures.ok (checked_added _ _ _ _ c.self.invariant checked).kept

pub returns-clause-ok : goal.returns-clause-ok
returns-clause-ok c =
    let checked : length_of (with_resource c.args.resource c.self.inside.contents) ≡ Ok c.args.size = rw c.self.view_is c.requires in
    rw (c.in_ok-add.ensures.ok, ← c.self.view_is) (checked_added _ _ _ _ c.self.invariant checked).answer
