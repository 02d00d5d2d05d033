use Rattle.zone_machine.proofs.Telling.{IsTold-in}
use Rattle.zone_machine.specs.Machine.Told.{claims}
use Rattle.zone_machine.proofs.machine.Machine.claims.Goals as goal

pub returns-clause-ok : goal.returns-clause-ok
returns-clause-ok g c = IsTold-in (claims c.args.kind) c.args.self.now.parts c.args.zone.now _ c.in_ok-claims.ensures.ok
