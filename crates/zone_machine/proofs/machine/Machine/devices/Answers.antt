use Rattle.zone_machine.proofs.Telling.{IsTold-in}
use Rattle.zone_machine.specs.Machine.Told.{devices}
use Rattle.zone_machine.proofs.machine.Machine.devices.Goals as goal

pub returns-clause-ok : goal.returns-clause-ok
returns-clause-ok g c = IsTold-in devices c.args.self.now.parts c.args.zone.now _ c.in_ok-devices.ensures.ok
