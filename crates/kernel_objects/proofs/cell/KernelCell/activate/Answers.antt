use Rattle.std.proofs.Common.{Bool, ℕ, subst}
use Rattle.zn_base.specs.Names.{Name}
use Rattle.kernel_objects.specs.Kernel.{has_zid}
use Rattle.kernel_objects.specs.Shared.{TakesZid}
use Rattle.kernel_objects.proofs.Sharing.{took_zid}
use Rattle.kernel_objects.proofs.cell.KernelCell.activate.Goals as goal

pub returns-clause-taken : goal.returns-clause-taken
returns-clause-taken c =
    let gone : ℕ → Bool = λ n. has_zid n c.args.self.now.id in
    let Owned_by : Name → Type 0 = λ z. TakesZid z c.args.zid gone c.args.shared.now c.take_zid.new.self in
    subst Owned_by c.in_ok-owner.ensures.owner (took_zid _ c.args.zid c.args.shared.now _ c.room_for_zid.ensures.alike gone _ c.take_zid.new.self c.room_for_zid.ensures.same c.free_zid.ensures.freed c.take_zid.ensures)
