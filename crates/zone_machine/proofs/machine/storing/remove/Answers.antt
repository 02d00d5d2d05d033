use Rattle.std.proofs.Common.{None, Some, false, nat_eq, subst, sym}
use Rattle.zone_pools.specs.Owners.{owner}
use Rattle.zoneadmd_steps.specs.Arrivals.{New_record}
use Rattle.zone_machine.proofs.Doing_laws.{does_then, kept_apart}
use Rattle.zone_machine.specs.Code.Cells.{kept}
use Rattle.zone_machine.specs.Code.Rooms.{IsOpenTo}
use Rattle.zone_machine.specs.Code.Works.{with_row}
use Rattle.zone_machine.specs.Machine.Common.{came_common}
use Rattle.zone_cases.specs.State.Edits.{console_gone_world}
use Rattle.zone_machine.proofs.machine.storing.remove.Goals as goal

pub returns-clause-does : goal.returns-clause-does
returns-clause-does c =
    let z = c.args.zone in let cell = c.args.cell.now in
    does_then z (with_row None) (console_gone_world false) (came_common z (Some (New_record None))) kept cell cell c.drop_console.new.cell c.args.shared.now c.take_row.new.shared c.drop_console.new.shared (kept_apart z)
    c.take_row.ensures.does (c.drop_console.ensures.does z)

pub returns-clause-open : goal.returns-clause-open
returns-clause-open c = λ z k h. c.drop_console.ensures.open z k (subst (λ o. IsOpenTo z (owner nat_eq o k)) (sym c.take_row.ensures.sessions) h)
