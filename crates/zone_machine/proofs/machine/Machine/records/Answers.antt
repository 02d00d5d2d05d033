use Rattle.std.proofs.Common.{ap, sym}
use Rattle.zone_machine.specs.Machine.Common.{Common}
use Rattle.zone_machine.proofs.machine.Machine.records.Goals as goal

pub returns : goal.returns
returns g c = λ S h. sym (ap (λ (k : Common). k.serial) h.shared)
