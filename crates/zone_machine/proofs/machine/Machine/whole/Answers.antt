use Rattle.std.proofs.Common.{refl}
use Rattle.zone_machine.proofs.Partings.{apart, together}
use Rattle.zone_machine.proofs.machine.Machine.whole.Goals as goal

pub returns-clause-stands : goal.returns-clause-stands
returns-clause-stands g c = λ S. (together _ c.args.parted refl refl refl S, apart _ c.args.parted refl refl refl S)
