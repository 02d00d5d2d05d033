use Rattle.std.proofs.lemmas.Result.{err_from_is_err_and}
use Rattle.config_verify.proofs.Chains.{alone, fails, passes}
use Rattle.config_verify.proofs.config.flaw_of_resources.Goals as goal

pub returns-in_err-flaw_of_mounts : goal.returns-in_err-flaw_of_mounts
returns-in_err-flaw_of_mounts c =
    let p = err_from_is_err_and c.from_residual.result c.from_residual.ensures.1 in
    rw (p.1, p.2) (fails _ (rw c.as_slice.ensures.items at c.in_err-flaw_of_mounts.ensures))

pub returns-in_err-flaw_of_nets : goal.returns-in_err-flaw_of_nets
returns-in_err-flaw_of_nets c =
    let p = err_from_is_err_and c.from_residual-in_err-flaw_of_nets.result c.from_residual-in_err-flaw_of_nets.ensures.1 in
    rw (p.1, p.2) (passes (rw c.as_slice.ensures.items at c.in_ok-flaw_of_mounts.ensures) (fails _ (rw c.as_slice-2.ensures.items at c.in_err-flaw_of_nets.ensures)))

pub returns-in_err-flaw_of_devices : goal.returns-in_err-flaw_of_devices
returns-in_err-flaw_of_devices c =
    let p = err_from_is_err_and c.from_residual-in_err-flaw_of_devices.result c.from_residual-in_err-flaw_of_devices.ensures.1 in
    rw (p.1, p.2) (passes (rw c.as_slice.ensures.items at c.in_ok-flaw_of_mounts.ensures) (passes (rw c.as_slice-2.ensures.items at c.in_ok-flaw_of_nets.ensures) (fails _ (rw c.as_slice-3.ensures.items at c.in_err-flaw_of_devices.ensures))))

pub returns-in_err-flaw_of_rctls : goal.returns-in_err-flaw_of_rctls
returns-in_err-flaw_of_rctls c =
    let p = err_from_is_err_and c.from_residual-in_err-flaw_of_rctls.result c.from_residual-in_err-flaw_of_rctls.ensures.1 in
    rw (p.1, p.2) (passes (rw c.as_slice.ensures.items at c.in_ok-flaw_of_mounts.ensures) (passes (rw c.as_slice-2.ensures.items at c.in_ok-flaw_of_nets.ensures) (passes (rw c.as_slice-3.ensures.items at c.in_ok-flaw_of_devices.ensures) (fails _ (rw c.as_slice-4.ensures.items at c.in_err-flaw_of_rctls.ensures)))))

pub returns-in_err-flaw_of_attrs : goal.returns-in_err-flaw_of_attrs
returns-in_err-flaw_of_attrs c =
    let p = err_from_is_err_and c.from_residual-in_err-flaw_of_attrs.result c.from_residual-in_err-flaw_of_attrs.ensures.1 in
    rw (p.1, p.2) (passes (rw c.as_slice.ensures.items at c.in_ok-flaw_of_mounts.ensures) (passes (rw c.as_slice-2.ensures.items at c.in_ok-flaw_of_nets.ensures) (passes (rw c.as_slice-3.ensures.items at c.in_ok-flaw_of_devices.ensures) (passes (rw c.as_slice-4.ensures.items at c.in_ok-flaw_of_rctls.ensures) (fails _ (rw c.as_slice-5.ensures.items at c.in_err-flaw_of_attrs.ensures))))))

pub returns : goal.returns
returns c = passes (rw c.as_slice.ensures.items at c.in_ok-flaw_of_mounts.ensures) (passes (rw c.as_slice-2.ensures.items at c.in_ok-flaw_of_nets.ensures) (passes (rw c.as_slice-3.ensures.items at c.in_ok-flaw_of_devices.ensures) (passes (rw c.as_slice-4.ensures.items at c.in_ok-flaw_of_rctls.ensures) (passes (rw c.as_slice-5.ensures.items at c.in_ok-flaw_of_attrs.ensures) (alone (rw c.as_slice-6.ensures.items at c.flaw_of_datasets.ensures))))))
