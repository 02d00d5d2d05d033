use Rattle.zone_machine.proofs.Kernel_doing.{does_rename}
use Rattle.zone_machine.proofs.machine.objects.rename.Goals as goal

pub returns-clause-does : goal.returns-clause-does
returns-clause-does c = λ z n s. does_rename z c.args.cell.now s c.set_name.new.self c.args.pid c.args.name c.set_name.ensures n
