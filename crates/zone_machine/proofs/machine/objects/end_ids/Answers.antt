use Rattle.zone_machine.proofs.Kernel_doing.{does_give_up_id}
use Rattle.zone_machine.proofs.machine.objects.end_ids.Goals as goal

pub returns-clause-does : goal.returns-clause-does
returns-clause-does c = λ z. does_give_up_id z c.args.cell.now c.args.shared.now c.give_up_id.new.self c.give_up_id.new.shared c.give_up_id.ensures.freed c.give_up_id.ensures.id
