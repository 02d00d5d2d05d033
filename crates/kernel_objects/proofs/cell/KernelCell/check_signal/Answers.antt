use Rattle.std.proofs.Common.{◌∙◌, ap}
use Rattle.kernel_objects.specs.Kernel.{Kernel}
use Rattle.kernel_objects.specs.Processes.{ends_some, with_pid}
use Rattle.kernel_objects.proofs.cell.KernelCell.check_signal.Goals as goal

pub returns-in-Some-clause-ends : goal.returns-in-Some-clause-ends
returns-in-Some-clause-ends c =
    c.ends.ensures c.args.pid ∙ ap (ends_some c.args.inside c.args.signal) c.in-Some.ensures
    ∙ ap (λ (k : Kernel). ends_some c.args.inside c.args.signal (with_pid c.args.pid k.processes)) c.self.view_is
