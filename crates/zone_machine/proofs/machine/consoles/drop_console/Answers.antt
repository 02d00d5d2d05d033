use Rattle.zone_machine.proofs.Doing_laws.{does_renew, does_then, kept_apart}
use Rattle.console_link.specs.Consoles.{new_console}
use Rattle.zone_machine.specs.Code.Cells.{kept}
use Rattle.zone_cases.specs.Code.Doings.{swept_by}
use Rattle.zone_cases.specs.State.Worlds.{World}
use Rattle.zone_cases.specs.declared.session.doings.Ended.TheVariants.{Console}
use Rattle.zone_machine.proofs.machine.consoles.drop_console.Goals as goal

pub returns-clause-does : goal.returns-clause-does
returns-clause-does c = λ z.
    let s = c.args.shared.now in
    does_then z (λ (w : World). record w { console = new_console }) (swept_by Console) kept kept c.args.cell.now c.renew.new.cell c.end.new.cell s s c.end.new.shared (kept_apart z)
    (rw c.renew.ensures.same (does_renew z c.args.cell.now c.renew.new.cell s c.renew.ensures.new)) (c.end.ensures.does z)
