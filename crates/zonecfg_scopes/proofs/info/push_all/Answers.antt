use Rattle.zonecfg_scopes.proofs.Shown.{all_put}
use Rattle.zonecfg_scopes.proofs.info.push_all.Goals as goal

pub returns : goal.returns
returns c =
    all_put c.args.name.now c.args.contents.now c.args.out.now c.push_named.new.out c.push_properties.new.out c.push_resources.new.out
    c.in_ok-push_named.ensures c.in_ok-push_properties.ensures c.in_ok-push_resources.ensures
