use Rattle.std.proofs.Common.{None, ap, refl, rules, sym, ◌∙◌}
use Rattle.zone_pools.specs.Decisions.{asked_of}
use Rattle.std.specs.Prelude.{IfErr}
use Rattle.zone_machine.proofs.Banking.{case-read, cell-goes, cell-goes-taken, cell-keeps, cell-keeps-taken}
use Rattle.zone_machine.proofs.Places.{place_case}
use Rattle.zone_machine.proofs.Results.{if_err}
use Rattle.zone_machine.proofs.Stepping.{IsCellMisfitUnder-by, IsCellStepUnder-by, case_freed, cell-leaves-stated, cell-left_so}
use Rattle.zone_cases.specs.Code.Cases.{decision_of, IsCaseIn}
use Rattle.zone_cases.specs.Code.Cells.{cell_world}
use Rattle.zone_machine.specs.Code.Cells.{outside_in}
use Rattle.zone_machine.specs.Code.Needs.{pools_in}
use Rattle.zone_machine.specs.Code.Reads.{decide_read}
use Rattle.zone_machine.specs.Code.Cell_steps.{CellLeaves}
use Rattle.zone_machine.specs.Code.Decided.{entry_of}
use Rattle.zone_machine.specs.Machine.{decide}
use Rattle.zone_cases.specs.State.Worlds.{view_of}
use Rattle.zone_cases.specs.declared.events.Subject.TheVariants.{Zone}
use Rattle.zone_machine.proofs.machine.steps.answer.Goals as goal

pub returns-in_err-case-clause-fault : goal.returns-in_err-case-clause-fault
returns-in_err-case-clause-fault g c =
    let z = c.args.zone.now in
    cell-left_so z c.args.cell.now c.args.shared.now c.args.event.now c.from_residual.result c.args.stated (search rules)
    (λ bad. IsCellMisfitUnder-by z c.args.cell.now c.args.shared.now c.args.event.now c.args.stated
    (asked_of (decide_read (view_of z (cell_world (outside_in z c.args.shared.now) c.args.cell.now)) c.read_event-read.result)) (ap asked_of (sym (c.read_event-read.ensures.decide _))) (search rules))

pub perform_case-requires-clause-free : goal.perform_case-requires-clause-free
perform_case-requires-clause-free g c =
    case_freed (pools_in c.args.shared.now) c.args.zone.now c.args.cell.now.desk c.in_ok-case.case c.args.stated c.in_ok-case.grant c.in_ok-case.ensures.takes

pub returns-clause-ok : goal.returns-clause-ok
returns-clause-ok g c =
    IsCellStepUnder-by c.args.zone.now c.args.cell.now c.args.shared.now c.args.event.now c.args.stated c.in_ok-case.grant
    (entry_of (Zone c.args.zone.now) c.args.event.now c.in_ok-case.grant c.in_ok-reply.reply) c.perform_case.new.cell c.perform_case.new.shared
    (asked_of (decision_of c.args.cell.now.desk c.in_ok-case.case)) (ap asked_of (sym (c.read_event-read.ensures.decide _) ∙ c.in_ok-case.ensures.case.decided))
    c.in_ok-case.ensures.takes refl c.in_ok-reply.ensures.step

pub perform_case-requires-clause-place : goal.perform_case-requires-clause-place
perform_case-requires-clause-place g c =
    place_case c.args.zone.now c.args.shared.now c.args.cell.now c.args.event.now (λ v. decide_read v c.read_event-read.result) c.in_ok-case.case c.args.stated c.in_ok-case.grant c.read_event-read.ensures.decide c.in_ok-case.ensures.case c.in_ok-case.ensures.takes

pub returns-in_err-reply-clause-fault : goal.returns-in_err-reply-clause-fault
returns-in_err-reply-clause-fault g c =
    let z = c.args.zone.now in let case = c.in_ok-case.case in
    let h : IsCaseIn z (outside_in z c.args.shared.now) c.args.cell.now (λ v. decide v c.args.event.now) case = case-read z (outside_in z c.args.shared.now) c.args.cell.now _ c.args.event.now case c.read_event-read.ensures.decide c.in_ok-case.ensures.case in
    let said : IfErr c.from_residual-in_err-reply.result (λ fault. CellLeaves fault z None c.args.cell.now c.args.shared.now c.args.event.now c.perform_case.new.cell c.perform_case.new.shared) = search rules in
    if_err c.from_residual-in_err-reply.result _ _
    (cell-leaves-stated z c.args.cell.now c.args.shared.now c.args.event.now c.args.stated c.in_ok-case.grant (asked_of (decision_of c.args.cell.now.desk case)) (ap asked_of h.decided) c.in_ok-case.ensures.takes c.perform_case.new.cell c.perform_case.new.shared) said

pub returns-in_err-reply-clause-goes : goal.returns-in_err-reply-clause-goes
returns-in_err-reply-clause-goes g c =
    let z = c.args.zone.now in let case = c.in_ok-case.case in
    let h : IsCaseIn z (outside_in z c.args.shared.now) c.args.cell.now (λ v. decide v c.args.event.now) case = case-read z (outside_in z c.args.shared.now) c.args.cell.now _ c.args.event.now case c.read_event-read.ensures.decide c.in_ok-case.ensures.case in
    cell-goes-taken z c.args.cell.now c.args.shared.now c.args.event.now case c.args.stated c.in_ok-case.grant h c.in_ok-case.ensures.takes _ _ _
    (cell-goes z c.args.cell.now c.args.shared.now c.args.event.now case c.in_ok-case.grant h c.in_ok-case.ensures.numbered _ _ _ c.perform_case.ensures.writes)

pub returns-clause-goes : goal.returns-clause-goes
returns-clause-goes g c =
    let z = c.args.zone.now in let case = c.in_ok-case.case in
    let h : IsCaseIn z (outside_in z c.args.shared.now) c.args.cell.now (λ v. decide v c.args.event.now) case = case-read z (outside_in z c.args.shared.now) c.args.cell.now _ c.args.event.now case c.read_event-read.ensures.decide c.in_ok-case.ensures.case in
    cell-goes-taken z c.args.cell.now c.args.shared.now c.args.event.now case c.args.stated c.in_ok-case.grant h c.in_ok-case.ensures.takes _ _ _
    (cell-goes z c.args.cell.now c.args.shared.now c.args.event.now case c.in_ok-case.grant h c.in_ok-case.ensures.numbered _ _ _ c.perform_case.ensures.writes)

pub returns-clause-bodies : goal.returns-clause-bodies
returns-clause-bodies g c =
    let z = c.args.zone.now in let case = c.in_ok-case.case in
    let h : IsCaseIn z (outside_in z c.args.shared.now) c.args.cell.now (λ v. decide v c.args.event.now) case = case-read z (outside_in z c.args.shared.now) c.args.cell.now _ c.args.event.now case c.read_event-read.ensures.decide c.in_ok-case.ensures.case in
    cell-keeps-taken z c.args.cell.now c.args.shared.now c.args.event.now case c.args.stated c.in_ok-case.grant h c.in_ok-case.ensures.takes _ _
    (cell-keeps z c.args.cell.now c.args.shared.now c.args.event.now case c.in_ok-case.grant h c.in_ok-case.ensures.numbered _ _ c.in_ok-reply.ensures.records)
