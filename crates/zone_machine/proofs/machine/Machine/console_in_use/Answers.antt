use Rattle.zone_machine.proofs.Telling.{IsTold-in}
use Rattle.zone_machine.specs.Machine.Told.{console_in_use}
use Rattle.zone_machine.proofs.machine.Machine.console_in_use.Goals as goal

pub returns : goal.returns
returns g c = IsTold-in console_in_use c.args.self.now.parts c.args.zone.now c.console_in_use.result c.console_in_use.ensures
