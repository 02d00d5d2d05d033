use Rattle.std.proofs.lemmas.Result.{err_from_is_err_and}
use Rattle.config_verify.proofs.Chains.{fails, passes}
use Rattle.config_verify.proofs.config.first_other_flaw.Goals as goal

pub returns-in_err-zonepath_flaw : goal.returns-in_err-zonepath_flaw
returns-in_err-zonepath_flaw c =
    let p = err_from_is_err_and c.from_residual.result c.from_residual.ensures.1 in
    rw (p.1, p.2) (fails _ c.in_err-zonepath_flaw.ensures)

pub returns : goal.returns
returns c = passes c.in_ok-zonepath_flaw.ensures c.flaw_of_resources.ensures
