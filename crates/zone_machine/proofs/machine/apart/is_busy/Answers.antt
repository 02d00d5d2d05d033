use Rattle.std.proofs.Common.{◌∙◌}
use Rattle.zone_machine.proofs.Apart.{busy-stands}
use Rattle.zone_machine.proofs.machine.apart.is_busy.Goals as goal

pub returns : goal.returns
returns c = λ S has shares. c.has_work.ensures ∙ busy-stands c.args.zone.now S c.args.cell.now c.args.shared.now has shares
