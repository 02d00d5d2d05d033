use Rattle.std.proofs.Common.{subst}
use Rattle.zn_base.specs.Names.{Name}
use Rattle.kernel_objects.specs.Shared.{TakesPid}
use Rattle.kernel_objects.proofs.Sharing.{took_pid}
use Rattle.kernel_objects.proofs.cell.KernelCell.begin.Goals as goal

pub returns-clause-taken : goal.returns-clause-taken
returns-clause-taken c =
    let Owned_by : Name → Type 0 = λ z. TakesPid z c.args.pid c.args.shared.now c.take_pid.new.self in
    subst Owned_by c.in_ok-owner.ensures.owner (took_pid _ c.args.pid c.args.shared.now _ c.room_for_pid.ensures.alike c.take_pid.new.self c.room_for_pid.ensures.same c.take_pid.ensures)
