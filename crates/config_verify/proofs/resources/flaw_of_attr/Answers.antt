use Rattle.std.proofs.lemmas.Result.{err_from_is_err_and}
use Rattle.config_verify.specs.Flaws.{flaws_of_attr}
use Rattle.config_verify.proofs.Chains.{fails, passes}
use Rattle.config_verify.proofs.resources.flaw_of_attr.Goals as goal

pub returns-in_err-needs_text : goal.returns-in_err-needs_text
unfolding flaws_of_attr
returns-in_err-needs_text c =
    let p = err_from_is_err_and c.from_residual.result c.from_residual.ensures.1 in
    rw (p.1, p.2) (fails _ c.in_err-needs_text.ensures)

pub returns-in_err-needs_text-2 : goal.returns-in_err-needs_text-2
unfolding flaws_of_attr
returns-in_err-needs_text-2 c =
    let p = err_from_is_err_and c.from_residual-in_err-needs_text-2.result c.from_residual-in_err-needs_text-2.ensures.1 in
    rw (p.1, p.2) (passes c.in_ok-needs_text.ensures (fails _ c.in_err-needs_text-2.ensures))

pub returns-in_err-needs_text-3 : goal.returns-in_err-needs_text-3
unfolding flaws_of_attr
returns-in_err-needs_text-3 c =
    let p = err_from_is_err_and c.from_residual-in_err-needs_text-3.result c.from_residual-in_err-needs_text-3.ensures.1 in
    rw (p.1, p.2) (passes c.in_ok-needs_text.ensures (passes c.in_ok-needs_text-2.ensures (fails _ c.in_err-needs_text-3.ensures)))

pub returns : goal.returns
unfolding flaws_of_attr
returns c = passes c.in_ok-needs_text.ensures (passes c.in_ok-needs_text-2.ensures (passes c.in_ok-needs_text-3.ensures (c.value_flaw.ensures)))
