use Rattle.std.proofs.Common.{ap, rules, subst, sym, ◌∙◌}
use Rattle.std.specs.Prelude.{IfErr, None, bytes_eq, true, if◌then◌else◌}
use Rattle.zn_io.specs.Disk.{View}
use Rattle.zone_machine.specs.Code.Cell_steps.{CellLeaves}
use Rattle.zone_machine.specs.Code.Records.{BankLeft}
use Rattle.zone_machine.specs.Shown.{shown_by}
use Rattle.zoneadmd_steps.specs.Code.Desks.{as_desk}
use Rattle.zoneadmd_steps.specs.Objects.{ids_of}
use Rattle.daemon_threads.proofs.Results.{on_err_both}
use Rattle.daemon_threads.proofs.Stepping.{Notes, cell-answers, undone}
use Rattle.daemon_threads.specs.Goods.{Goods}
use Rattle.daemon_threads.specs.Parts.{IsUndone, Stands, commons}
use Rattle.daemon_threads.proofs.part.SharedPart.zone_step.Goals as goal

pub returns-in_err-entry-clause-err : goal.returns-in_err-entry-clause-err
returns-in_err-entry-clause-err g c =
    let z = c.args.zone.now in let d = c.cell_step.new.cell in
    let m : Goods g.row.D.Denot = record { shared = c.self.inside.shared; shown = c.self.inside.shown; bank = c.self.inside.bank } in
    let n : Goods g.row.D.Denot = record { shared = c.cell_step.new.shared; shown = c.make_place.new.self; bank = c.cell_step.new.bank } in
    let v : View = g.D.Disk.view c.self.inside.bank.disk in
    let w : View = g.D.Disk.view c.cell_step.new.bank.disk in
    let leaves : IfErr c.from_residual-in_err-entry.result (λ fault. CellLeaves fault z None c.args.cell.now m.shared c.args.event d n.shared) = search rules in
    let left : IfErr c.from_residual-in_err-entry.result (λ fault. BankLeft true fault m.bank n.bank v w n.shared) = search rules in
    on_err_both c.from_residual-in_err-entry.result _ _ _
    (λ fault leaves left. subst (λ k. IsUndone g.D.Disk.view g.N.Names.view z c.args.event c.args.cell.now k d n) c.self.view_is
    (undone g.D.Disk.view g.N.Names.view z c.args.event fault c.args.cell.now d m n leaves left c.cell_step.ensures.goes c.cell_step.ensures.passes c.make_place.ensures.same (ap (λ k. k.bank.sound) c.self.view_is ∙ c.requires.sound)))
    leaves left

pub returns-clause-step : goal.returns-clause-step
returns-clause-step g c = λ S before cell stands of.
    let z = c.args.zone.now in let d = c.cell_step.new.cell in
    let m : Goods g.row.D.Denot = record { shared = c.self.inside.shared; shown = c.self.inside.shown; bank = c.self.inside.bank } in
    let n : Goods g.row.D.Denot = record { shared = c.cell_step.new.shared; shown = c.note.new.self; bank = c.cell_step.new.bank } in
    let notes : Notes z d m.shown n.shown = λ y. c.note.ensures y ∙ ap (λ k. if bytes_eq z y then shown_by (as_desk d.desk) (ids_of d.kernel.id) else k) (c.make_place.ensures.same y) in
    cell-answers g.D.Disk.view g.N.Names.view before z S c.args.event c.in_ok-entry.entry c.args.cell.now d m n c.in_ok-entry.ensures.ok c.in_ok-entry.ensures.bodies c.cell_step.ensures.goes c.cell_step.ensures.passes c.in_ok-entry.ensures.ready notes
    (ap (λ k. k.bank.sound) c.self.view_is ∙ c.requires.sound) cell (subst (λ k. Stands g.D.Disk.view g.N.Names.view before k (commons S)) (sym c.self.view_is) stands) of
