use Rattle.zone_machine.proofs.Doing_laws.{does_then, kept_apart}
use Rattle.zone_machine.specs.Code.Cells.{kept}
use Rattle.zone_cases.specs.Code.Doings.{swept_by}
use Rattle.zone_machine.specs.Code.Works.{without_process}
use Rattle.zone_cases.specs.declared.session.doings.Ended.TheVariants.{Process}
use Rattle.zone_machine.proofs.machine.objects.end_process.Goals as goal

pub returns-clause-does : goal.returns-clause-does
returns-clause-does c = λ z n.
    does_then z (without_process c.args.pid) (swept_by (Process c.args.pid)) kept kept c.args.cell.now c.kill.new.cell c.end.new.cell c.args.shared.now c.kill.new.shared c.end.new.shared (kept_apart z)
    (c.kill.ensures.does z) (c.end.ensures.does z)
