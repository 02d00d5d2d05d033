use Rattle.zone_machine.specs.Code.Openings.{StandsFor}
use Rattle.zones_live.proofs.Declares.{declared-one}
use Rattle.zones_live.proofs.declaring.declare_one.Goals as goal

pub returns-clause-declared : goal.returns-clause-declared
returns-clause-declared g c = λ S stands.
    let view = g.D.Disk.view in
    declared-one S c.args.what c.in_ok-entry.entry c.args.entries.now.items c.step.new.entries.items c.push_reserved.new.self.items (λ T. StandsFor T c.step.new.machine) (view c.args.machine.now.bank.disk) (view c.step.new.machine.bank.disk) c.push_reserved.ensures.items c.step.ensures.same
    (c.in_ok-entry.ensures.takes S stands)
