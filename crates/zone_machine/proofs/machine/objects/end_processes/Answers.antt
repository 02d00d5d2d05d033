use Rattle.zone_machine.proofs.Doing_laws.{does_then, kept_apart}
use Rattle.zone_machine.specs.Code.Cells.{kept}
use Rattle.zone_cases.specs.Code.Doings.{swept_by}
use Rattle.zone_machine.specs.Code.Works.{without_processes}
use Rattle.zone_cases.specs.declared.session.doings.Ended.TheVariants.{Processes}
use Rattle.zone_machine.proofs.machine.objects.end_processes.Goals as goal

pub returns-clause-does : goal.returns-clause-does
returns-clause-does c = λ z n.
    does_then z without_processes (swept_by Processes) kept kept c.args.cell.now c.kill_all.new.cell c.end.new.cell c.args.shared.now c.kill_all.new.shared c.end.new.shared (kept_apart z)
    (c.kill_all.ensures.does z) (c.end.ensures.does z)
