use Rattle.std.proofs.lemmas.Result.{err_from_is_err_and}
use Rattle.config_verify.specs.Flaws.{flaws_of_fs}
use Rattle.config_verify.proofs.Chains.{fails, passes}
use Rattle.config_verify.proofs.resources.flaw_of_fs.Goals as goal

pub returns-in_err-needs_dir : goal.returns-in_err-needs_dir
unfolding flaws_of_fs
returns-in_err-needs_dir c =
    let p = err_from_is_err_and c.from_residual.result c.from_residual.ensures.1 in
    rw (p.1, p.2) (fails _ c.in_err-needs_dir.ensures)

pub returns-in_err-needs_special : goal.returns-in_err-needs_special
unfolding flaws_of_fs
returns-in_err-needs_special c =
    let p = err_from_is_err_and c.from_residual-in_err-needs_special.result c.from_residual-in_err-needs_special.ensures.1 in
    rw (p.1, p.2) (passes c.in_ok-needs_dir.ensures (fails _ c.in_err-needs_special.ensures))

pub returns-in_err-needs_text : goal.returns-in_err-needs_text
unfolding flaws_of_fs
returns-in_err-needs_text c =
    let p = err_from_is_err_and c.from_residual-in_err-needs_text.result c.from_residual-in_err-needs_text.ensures.1 in
    rw (p.1, p.2) (passes c.in_ok-needs_dir.ensures (passes c.in_ok-needs_special.ensures (fails _ c.in_err-needs_text.ensures)))

pub returns : goal.returns
unfolding flaws_of_fs
returns c = passes c.in_ok-needs_dir.ensures (passes c.in_ok-needs_special.ensures (passes c.in_ok-needs_text.ensures (c.dir_flaw.ensures)))
