use Rattle.zone_machine.proofs.Telling.{IsTold-in}
use Rattle.zone_machine.specs.Machine.Told.{zid_of}
use Rattle.zone_machine.proofs.machine.Machine.zid_of.Goals as goal

pub returns : goal.returns
returns g c = IsTold-in zid_of c.args.self.now.parts c.args.zone.now c.zid_of.result c.zid_of.ensures
