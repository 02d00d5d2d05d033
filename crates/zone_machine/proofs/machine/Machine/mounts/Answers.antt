use Rattle.zone_machine.proofs.Telling.{IsTold-in}
use Rattle.zone_machine.specs.Machine.Told.{mounts}
use Rattle.zone_machine.proofs.machine.Machine.mounts.Goals as goal

pub returns-clause-ok : goal.returns-clause-ok
returns-clause-ok g c = IsTold-in mounts c.args.self.now.parts c.args.zone.now _ c.in_ok-mounts.ensures.ok
