use Rattle.std.proofs.Common.{[], ap}
use Rattle.std.specs.List.{list_any}
use Rattle.kernel_objects.specs.Processes.{has_pid}
use Rattle.zone_machine.proofs.Kernel_doing.{does_go, none_of}
use Rattle.zone_machine.proofs.Lists_laws.{none_left}
use Rattle.zone_cases.specs.Code.Cells.{cell_world}
use Rattle.zone_machine.specs.Code.Cells.{outside_in}
use Rattle.zone_machine.specs.Code.Works.{without_processes}
use Rattle.zone_machine.proofs.machine.objects.kill_all.Goals as goal

pub returns-clause-does : goal.returns-clause-does
returns-clause-does c = λ z.
    let cell = c.args.cell.now in let s = c.args.shared.now in
    does_go z cell s c.kill_all.new.self c.kill_all.new.shared without_processes (λ m. list_any (has_pid m) cell.kernel.processes) [] c.kill_all.ensures.freed c.kill_all.ensures.gone
    (ap (λ ps. record (cell_world (outside_in z s) cell) { processes = ps }) (none_left cell.kernel.processes)) (λ m e. e) (λ m. none_of (list_any (has_pid m) cell.kernel.processes))
