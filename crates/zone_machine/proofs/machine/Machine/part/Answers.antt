use Rattle.std.proofs.Common.{refl}
use Rattle.zone_machine.proofs.Partings.{apart, together}
use Rattle.zone_machine.proofs.machine.Machine.part.Goals as goal

pub returns-clause-stands : goal.returns-clause-stands
returns-clause-stands g c = λ S. (apart c.args.self _ refl refl refl S, together c.args.self _ refl refl refl S)
