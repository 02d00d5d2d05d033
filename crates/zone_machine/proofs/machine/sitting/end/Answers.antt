use Rattle.std.proofs.Common.{arith, nat_eq, subst, sym}
use Rattle.indexmap.specs.IndexMap.{get}
use Rattle.zone_machine.proofs.Doing_laws.{does_ends, open_ended}
use Rattle.zone_cases.specs.Code.Doings.{is_ended}
use Rattle.zone_machine.specs.Code.Rooms.{IsOpenTo}
use Rattle.zone_pools.specs.Owners.{owner}
use Rattle.zone_machine.proofs.machine.sitting.end.Goals as goal

pub returns-clause-does : goal.returns-clause-does
returns-clause-does c = λ z.
    does_ends z c.args.cell.now (record c.args.cell.now { doings = c.end_doings.new.doings }) c.args.shared.now (record c.args.shared.now { sessions = c.end_doings.new.sessions }) c.args.ended
    c.end_doings.ensures.doings c.end_doings.ensures.sessions

pub returns-clause-room : goal.returns-clause-room
returns-clause-room c = λ h. (omega (arith, h.0, c.end_doings.ensures.room.0), omega (arith, h.1, c.end_doings.ensures.room.1))

pub returns-clause-open : goal.returns-clause-open
returns-clause-open c = λ z k h.
    subst (IsOpenTo z) (sym (c.end_doings.ensures.sessions k)) (open_ended z (is_ended c.args.ended (get nat_eq c.args.cell.now.doings k)) (owner nat_eq c.args.shared.now.sessions k) h)
