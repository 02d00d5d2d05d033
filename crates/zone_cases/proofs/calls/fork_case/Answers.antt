use Rattle.kernel_objects.specs.Kernel.{at_limit}
use Rattle.kernel_objects.specs.Processes.{with_pid}
use Rattle.zone_cases.proofs.Kernel_cases.{may_fork_case}
use Rattle.zone_cases.proofs.calls.fork_case.Goals as goal

pub returns-in_ok-new-in-Ok-clause-decides : goal.returns-in_ok-new-in-Ok-clause-decides
returns-in_ok-new-in-Ok-clause-decides c = λ d p there.
    let k = c.args.kernel.now in
    rw (← c.in_ok-copy.ensures) (may_fork_case d p c.in_ok-copy.field-0 (with_pid c.args.pid k.processes) (at_limit k) c.in-Ok.running c.in_ok-new-in-Ok.field-0 there c.in-Ok.ensures.set c.in-Ok.ensures.forked c.in_ok-new-in-Ok.ensures.ok)
