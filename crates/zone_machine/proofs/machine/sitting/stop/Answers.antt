use Rattle.std.proofs.Common.{None}
use Rattle.zone_machine.proofs.Doing_laws.{does_sits}
use Rattle.zone_machine.proofs.machine.sitting.stop.Goals as goal

pub returns-clause-does : goal.returns-clause-does
returns-clause-does c = λ z is_open.
    let s = c.args.shared.now in
    does_sits z c.args.cell.now (record c.args.cell.now { doings = c.stop_doing.new.doings }) s (record s { sessions = c.give_back.new.self }) c.args.number None is_open
    (λ n. c.give_back.ensures.given n) c.stop_doing.ensures
