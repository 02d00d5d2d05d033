use Rattle.std.proofs.Common.{map}
use Rattle.zone_machine.proofs.Doing_laws.{does_then, kept_apart}
use Rattle.zoneadmd_steps.specs.Code.Cases.{object_edits}
use Rattle.zone_cases.specs.Code.Consoles.{console_edits}
use Rattle.zone_machine.specs.Code.Works.{arrival_by, endings}
use Rattle.zone_cases.specs.Code.Doings.{sits}
use Rattle.zone_machine.specs.Machine.Common.{came_common}
use Rattle.zone_cases.specs.State.Decisions.{after_came_world}
use Rattle.zone_cases.specs.State.Edits.{Of_objects, edits_world}
use Rattle.zone_cases.specs.State.Worlds.{World}
use Rattle.zone_machine.specs.Code.Cells.{kept}
use Rattle.zone_machine.proofs.Opens.{opens_if}
use Rattle.zone_machine.proofs.machine.effects.carry_out.Goals as goal

pub returns-clause-does : goal.returns-clause-does
returns-clause-does c = λ z named opens.
    let n = c.args.number in let work = c.args.work in let c0 = c.args.cell.now in let s0 = c.args.shared.now in
    let came = arrival_by work.stored in
    let comes : World → World = after_came_world came in
    let seats : World → World = edits_world n (sits work.sits) in
    let objects : World → World = edits_world n (map Of_objects (object_edits work.objects)) in
    let console : World → World = edits_world n (console_edits work.console) in
    let ends : World → World = edits_world n (endings work.ended) in
    let g = came_common z came in
    does_then z (λ w. console (objects (seats (comes w)))) ends g kept c0 c.change_console.new.cell c.end_last.new.cell s0 c.change_objects-gone.new.shared c.end_last.new.shared (kept_apart z)
    (does_then z (λ w. objects (seats (comes w))) console g kept c0 c.change_objects-gone.new.cell c.change_console.new.cell s0 c.change_objects-gone.new.shared c.change_objects-gone.new.shared (kept_apart z)
    (does_then z (λ w. seats (comes w)) objects g kept c0 c.sit_down.new.cell c.change_objects-gone.new.cell s0 c.sit_down.new.shared c.change_objects-gone.new.shared (kept_apart z)
    (does_then z comes seats g kept c0 c.store_some.new.cell c.sit_down.new.cell s0 c.store_some.new.shared c.sit_down.new.shared (kept_apart z)
    (c.store_some.ensures.does z named.stored) (c.sit_down.ensures.does z named.sits (opens_if z n _ _ (c.store_some.ensures.open z) opens)))
    (c.change_objects-gone.ensures.does z n)) (c.change_console.ensures.does z c.change_objects-gone.new.shared)) (c.end_last.ensures.does z n)
