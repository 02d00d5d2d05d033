use Rattle.kernel_objects.specs.Kernel.{forked}
use Rattle.kernel_objects.proofs.Sharing.{comes}
use Rattle.kernel_objects.proofs.cell.KernelCell.fork.Goals as goal

pub returns-clause-forked : goal.returns-clause-forked
returns-clause-forked c = λ none.
    comes c.args.self.now c.begin.new.self _ _ (λ p. forked p c.args.name c.args.pid) (c.in_ok-begin.ensures.begun none) (c.in_ok-running.ensures.forked c.args.pid)
