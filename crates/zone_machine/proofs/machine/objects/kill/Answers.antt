use Rattle.zone_machine.proofs.Kernel_doing.{does_end}
use Rattle.zone_machine.proofs.machine.objects.kill.Goals as goal

pub returns-clause-does : goal.returns-clause-does
returns-clause-does c = λ z. does_end z c.args.cell.now c.args.shared.now c.end.new.self c.end.new.shared c.args.pid c.end.ensures.freed c.end.ensures.gone
