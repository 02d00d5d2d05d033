use Rattle.std.proofs.lemmas.Result.{err_from_is_err_and}
use Rattle.config_verify.specs.Flaws.{flaws_of_net}
use Rattle.config_verify.proofs.Chains.{each_fails, each_passes}
use Rattle.config_verify.proofs.resources.flaw_of_nets.Goals as goal

pub returns-in_err-flaw_of_net : goal.returns-in_err-flaw_of_net
returns-in_err-flaw_of_net c =
    let p = err_from_is_err_and c.from_residual.result c.from_residual.ensures.1 in
    rw (p.1, p.2) (each_fails (flaws_of_net c.args.ip) c.args.all.now c.loop-place.place c.index-all-place.result _ c.loop-place-test.true c.index-all-place.is c.loop-place.invariant c.in_err-flaw_of_net.ensures)

pub loop-place-preserved : goal.loop-place-preserved
loop-place-preserved c = each_passes (flaws_of_net c.args.ip) c.args.all.now c.loop-place.place c.index-all-place.result _ c.loop-place-test.true c.index-all-place.is c.loop-place.invariant c.in_ok-flaw_of_net.ensures
