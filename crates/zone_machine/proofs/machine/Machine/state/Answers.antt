use Rattle.zone_machine.proofs.Stepping.{IsZoneState-in}
use Rattle.zone_machine.proofs.machine.Machine.state.Goals as goal

pub returns : goal.returns
returns g c = IsZoneState-in c.args.self.now.parts c.args.zone.now c.state.result c.state.ensures
