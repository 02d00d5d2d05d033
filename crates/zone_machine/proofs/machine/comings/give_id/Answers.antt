use Rattle.zone_machine.proofs.Kernel_doing.{does_activate, none_owner}
use Rattle.zone_machine.proofs.Rooms_laws.{alike_kernels}
use Rattle.zone_machine.proofs.machine.comings.give_id.Goals as goal

pub returns-in-Ok-clause-does : goal.returns-in-Ok-clause-does
returns-in-Ok-clause-does c =
    does_activate c.args.zone.now c.args.cell.now c.args.shared.now c.activate.new.self c.activate.new.shared c.args.zid (none_owner _ c.requires) (rw c.in-Ok.is at c.activate.ensures.taken) (rw c.in-Ok.is at c.activate.ensures.id)

pub returns-in-Err-clause-alike : goal.returns-in-Err-clause-alike
returns-in-Err-clause-alike c = alike_kernels c.args.cell.now c.args.shared.now c.activate.new.self c.activate.new.shared (rw c.in-Err.is at c.activate.ensures.same) (rw c.in-Err.is at c.activate.ensures.alike)
