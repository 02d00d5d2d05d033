use Rattle.std.proofs.Common.{◌∙◌, ap}
use Rattle.kernel_objects.specs.Kernel.{with_process}
use Rattle.kernel_objects.proofs.cell.KernelCell.enter.Goals as goal

pub returns-clause-entered : goal.returns-clause-entered
returns-clause-entered c = λ none. c.in_ok-begin.ensures.begun none ∙ ap (λ p. with_process p c.args.self.now) (c.entering-running.ensures c.args.pid)
