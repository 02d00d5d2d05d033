use Rattle.std.proofs.lemmas.Result.{err_from_is_err_and}
use Rattle.config_verify.specs.Flaws.{flaws_of_rctl}
use Rattle.config_verify.proofs.Chains.{fails, passes}
use Rattle.config_verify.proofs.resources.flaw_of_rctl.Goals as goal

pub returns-in_err-needs_text : goal.returns-in_err-needs_text
unfolding flaws_of_rctl
returns-in_err-needs_text c =
    let p = err_from_is_err_and c.from_residual.result c.from_residual.ensures.1 in
    rw (p.1, p.2) (fails _ c.in_err-needs_text.ensures)

pub returns : goal.returns
unfolding flaws_of_rctl
returns c = passes c.in_ok-needs_text.ensures (c.needs_values.ensures)
