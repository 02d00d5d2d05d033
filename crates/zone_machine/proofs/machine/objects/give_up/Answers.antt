use Rattle.zone_machine.proofs.Kernel_doing.{does_drop}
use Rattle.zone_machine.proofs.machine.objects.give_up.Goals as goal

pub returns-clause-does : goal.returns-clause-does
returns-clause-does c = λ z n s. does_drop z c.args.cell.now s c.give_up.new.self c.args.pid c.args.number c.give_up.ensures n
