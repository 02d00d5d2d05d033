use Rattle.std.proofs.Common.{◌∙◌, nat_eq, ap, if◌then◌else◌, Some}
use Rattle.zone_pools.specs.Owners.{owner}
use Rattle.zone_machine.proofs.Doing_laws.{does_sits, retaken}
use Rattle.zone_machine.proofs.machine.sitting.begin.Goals as goal

pub returns-clause-does : goal.returns-clause-does
returns-clause-does c = λ is_open.
    let k = c.args.number in let z = c.args.zone in let s = c.args.shared.now in
    does_sits z c.args.cell.now (record c.args.cell.now { doings = c.begin_doing.new.doings }) s (record s { sessions = c.take_reserved.new.self }) k (Some c.args.doing) is_open
    (λ n. c.take_reserved.ensures n ∙ (ap (λ o. if nat_eq k n then Some z else o) (c.give_back.ensures.given n) ∙ retaken (nat_eq k n) z (owner nat_eq s.sessions n))) c.begin_doing.ensures
