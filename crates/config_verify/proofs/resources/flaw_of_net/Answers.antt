use Rattle.std.proofs.lemmas.Result.{err_from_is_err_and}
use Rattle.config_verify.specs.Flaws.{flaws_of_net}
use Rattle.config_verify.proofs.Chains.{fails, passes}
use Rattle.config_verify.proofs.resources.flaw_of_net.Goals as goal

pub returns-in_err-needs_text : goal.returns-in_err-needs_text
unfolding flaws_of_net
returns-in_err-needs_text c =
    let p = err_from_is_err_and c.from_residual.result c.from_residual.ensures.1 in
    rw (p.1, p.2) (fails _ c.in_err-needs_text.ensures)

pub returns-in_err-form_flaw : goal.returns-in_err-form_flaw
unfolding flaws_of_net
returns-in_err-form_flaw c =
    let p = err_from_is_err_and c.from_residual-in_err-form_flaw.result c.from_residual-in_err-form_flaw.ensures.1 in
    rw (p.1, p.2) (passes c.in_ok-needs_text.ensures (fails _ c.in_err-form_flaw.ensures))

pub returns-in_err-needs_address : goal.returns-in_err-needs_address
unfolding flaws_of_net
returns-in_err-needs_address c =
    let p = err_from_is_err_and c.from_residual-in_err-needs_address.result c.from_residual-in_err-needs_address.ensures.1 in
    rw (p.1, p.2) (passes c.in_ok-needs_text.ensures (passes c.in_ok-form_flaw.ensures (fails _ (rw (c.is_address.ensures, c.bytes.ensures.bytes) at c.in_err-needs_address.ensures))))

pub returns-in_err-needs_address-2 : goal.returns-in_err-needs_address-2
unfolding flaws_of_net
returns-in_err-needs_address-2 c =
    let p = err_from_is_err_and c.from_residual-in_err-needs_address-2.result c.from_residual-in_err-needs_address-2.ensures.1 in
    rw (p.1, p.2) (passes c.in_ok-needs_text.ensures (passes c.in_ok-form_flaw.ensures (passes (rw (c.is_address.ensures, c.bytes.ensures.bytes) at c.in_ok-needs_address.ensures) (fails _ (rw (c.is_address-2.ensures, c.bytes-2.ensures.bytes) at c.in_err-needs_address-2.ensures)))))

pub returns : goal.returns
unfolding flaws_of_net
returns c = passes c.in_ok-needs_text.ensures (passes c.in_ok-form_flaw.ensures (passes (rw (c.is_address.ensures, c.bytes.ensures.bytes) at c.in_ok-needs_address.ensures) (passes (rw (c.is_address-2.ensures, c.bytes-2.ensures.bytes) at c.in_ok-needs_address-2.ensures) (rw (c.is_plain_address.ensures, c.bytes-3.ensures.bytes) at c.needs_address-3.ensures))))
