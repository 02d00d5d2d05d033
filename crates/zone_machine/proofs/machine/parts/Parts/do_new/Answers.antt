use Rattle.std.proofs.Common.{◌≡◌, None, Some, ap, bytes_eq, rules, true}
use Rattle.std.specs.Prelude.{IfErr, is_some}
use Rattle.std.specs.Map.{lookup}
use Rattle.std.specs.HashMap.{get_by}
use Rattle.zn_base.specs.Names.{Name}
use Rattle.zone_machine.proofs.Banking.{parts-goes, parts-keeps, parts-more}
use Rattle.zone_machine.proofs.Results.{if_err_both}
use Rattle.zone_machine.proofs.Stepping.{IsStep-cell, Keeps-roomy, Leaves-new, same_none}
use Rattle.zone_machine.specs.Code.Cells.{cell_at}
use Rattle.zone_machine.specs.Code.Cell_steps.{CellLeaves}
use Rattle.zone_machine.specs.Code.Decided.{entry_of}
use Rattle.zone_machine.specs.Code.Records.{StoresUnder, stored_by}
use Rattle.zone_cases.specs.declared.events.Subject.TheVariants.{Zone}
use Rattle.zone_machine.specs.declared.faults.StepFault.TheVariants.{WouldRecord}
use Rattle.zone_machine.specs.declared.machine.parts.Parts.{Parts}
use Rattle.zone_machine.proofs.machine.parts.Parts.do_new.Goals as goal

pub returns-clause-step : goal.returns-clause-step
returns-clause-step g c =
    let m = c.args.self.now in let z = c.args.zone.now in
    let u : Parts = record { cells = c.keep.new.cells; shared = c.perform_case.new.shared } in
    IsStep-cell m u z c.args.event.now c.args.cell.value c.perform_case.new.cell (same_none m z c.args.cell.value c.requires.none c.requires.nothing)
    (Keeps-roomy m u z c.in-Ok.key c.perform_case.new.cell (λ y. get_by (bytes_eq y) c.room_for_cell.new.cells) c.in-Ok.ensures.key (λ y. ap (lookup (bytes_eq y)) c.in-Ok.ensures.same) c.keep.ensures)
    c.args.grant (entry_of (Zone z) c.args.event.now c.args.grant c.in_ok-reply.reply) c.requires.of (rw c.into_inner-cell.ensures at c.in_ok-reply.ensures.step)

pub returns-in_err-reply-clause-fault : goal.returns-in_err-reply-clause-fault
returns-in_err-reply-clause-fault g c =
    let m = c.args.self.now in let z = c.args.zone.now in let case = c.args.case in let old = c.args.cell.value in
    let u : Parts = record { cells = c.room_for_cell.new.cells; shared = c.perform_case.new.shared } in
    let same : (y : Name) → cell_at y u ≡ cell_at y m = λ y. ap (lookup (bytes_eq y)) c.in-Ok.ensures.same in
    let more : is_some (stored_by case c.args.grant) ≡ true → StoresUnder (Some c.args.grant) m c.args.event.now =
    parts-more m z old c.args.event.now case c.args.grant c.requires.case c.requires.numbered c.requires.of (same_none m z old c.requires.none c.requires.nothing) in
    let left : IfErr c.from_residual.result (λ fault. CellLeaves fault z None c.into_inner-cell.result m.shared c.args.event.now c.perform_case.new.cell c.perform_case.new.shared) = search rules in
    let would : IfErr c.from_residual.result (λ fault. fault ≡ WouldRecord → is_some (stored_by case c.args.grant) ≡ true) = search rules in
    if_err_both c.from_residual.result _ _ _ (λ fault left would. Leaves-new m u z c.args.event.now c.into_inner-cell.result c.perform_case.new.cell same c.args.grant fault left (λ is. more (would is))) left would

pub returns-in_err-reply-clause-goes : goal.returns-in_err-reply-clause-goes
returns-in_err-reply-clause-goes g c =
    let m = c.args.self.now in let z = c.args.zone.now in
    parts-goes m z c.args.cell.value c.args.event.now c.args.case c.args.grant c.requires.case c.requires.numbered c.requires.of (same_none m z c.args.cell.value c.requires.none c.requires.nothing) _ _ _ c.perform_case.ensures.writes

pub returns-clause-goes : goal.returns-clause-goes
returns-clause-goes g c =
    let m = c.args.self.now in let z = c.args.zone.now in
    parts-goes m z c.args.cell.value c.args.event.now c.args.case c.args.grant c.requires.case c.requires.numbered c.requires.of (same_none m z c.args.cell.value c.requires.none c.requires.nothing) _ _ _ c.perform_case.ensures.writes

pub returns-clause-bodies : goal.returns-clause-bodies
returns-clause-bodies g c =
    let m = c.args.self.now in let z = c.args.zone.now in
    parts-keeps m z c.args.cell.value c.args.event.now c.args.case c.args.grant c.requires.case c.requires.numbered c.requires.of (same_none m z c.args.cell.value c.requires.none c.requires.nothing) _ _ c.in_ok-reply.ensures.records
