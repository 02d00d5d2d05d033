use Rattle.std.proofs.Common.{sym}
use Rattle.kernel_objects.proofs.Sharing.{forks}
use Rattle.kernel_objects.proofs.cell.KernelCell.forking.Goals as goal

pub returns-clause-forked : goal.returns-clause-forked
returns-clause-forked c = forks c.args.self.now.processes c.args.parent c.args.name c.in_ok-fork_set.field-0 _ (sym c.in_ok-fork_set.ensures)
