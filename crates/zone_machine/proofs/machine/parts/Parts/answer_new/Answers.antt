use Rattle.std.proofs.Common.{rules}
use Rattle.zone_pools.specs.Decisions.{asked_of}
use Rattle.std.specs.Prelude.{IfErr}
use Rattle.zone_machine.proofs.Banking.{goes-taken, goes-unwritten, keeps-taken, leaves-stated}
use Rattle.zone_machine.proofs.Results.{if_err}
use Rattle.zone_machine.proofs.Places.{place_case}
use Rattle.zone_machine.proofs.Stepping.{case_freed, heard-new, left_so, same_none, taken, unfit}
use Rattle.zone_cases.specs.Code.Cells.{cell_world}
use Rattle.zone_machine.specs.Code.Cells.{outside_in}
use Rattle.zone_machine.specs.Code.Needs.{pools_in}
use Rattle.zone_machine.specs.Code.Reads.{decide_read}
use Rattle.zone_machine.specs.Code.Steps.{IsTaken, IsUnfit, LeavesGranted}
use Rattle.zone_cases.specs.State.Worlds.{view_of}
use Rattle.zone_machine.proofs.machine.parts.Parts.answer_new.Goals as goal

pub do_new-requires-clause-nothing : goal.do_new-requires-clause-nothing
do_new-requires-clause-nothing g c = λ out. rw c.in_ok-cell.ensures.ok (c.new.ensures out)

pub returns-in_err-case-clause-fault : goal.returns-in_err-case-clause-fault
returns-in_err-case-clause-fault g c = left_so c.from_residual-in_err-case.result c.args.stated c.args.self.now c.args.event.now (search rules) (λ bad.
    let m = c.args.self.now in let z = c.args.zone.now in
    let said : IsUnfit z (pools_in m.shared) (asked_of (decide_read (view_of z (cell_world (outside_in z m.shared) c.deref.result.now)) c.args.read)) c.args.stated = search rules in
    unfit m z c.args.event.now c.in_ok-cell.cell.value (λ v. decide_read v c.args.read) c.requires.of (same_none m z c.in_ok-cell.cell.value c.requires.none (λ out. rw c.in_ok-cell.ensures.ok (c.new.ensures out))) c.requires.decides c.args.stated
    (rw c.deref.ensures at said))

pub do_new-requires-clause-free : goal.do_new-requires-clause-free
do_new-requires-clause-free g c =
    case_freed (pools_in c.args.self.now.shared) c.args.zone.now c.in_ok-cell.cell.value.desk c.in_ok-case.case c.args.stated c.in_ok-case.grant (rw c.deref.ensures at c.in_ok-case.ensures.takes)

pub returns-clause-ok : goal.returns-clause-ok
returns-clause-ok g c = λ S h.
    let m = c.args.self.now in let z = c.args.zone.now in
    record {
      takes = taken m z c.args.event.now c.in_ok-cell.cell.value (λ v. decide_read v c.args.read) c.requires.of (same_none m z c.in_ok-cell.cell.value c.requires.none (λ out. rw c.in_ok-cell.ensures.ok (c.new.ensures out))) c.requires.decides
          c.args.stated c.in_ok-case.case c.in_ok-case.grant (rw c.deref.ensures at c.in_ok-case.ensures.case) (rw c.deref.ensures at c.in_ok-case.ensures.takes) S h;
      answers = c.in_ok-reply.ensures.step S h;
    }

pub granted_case-requires-clause-hook : goal.granted_case-requires-clause-hook
granted_case-requires-clause-hook g c = λ turn. heard-new c.args.self.now.shared.brands c.deref.result.now (λ out. rw c.deref.ensures (rw c.in_ok-cell.ensures.ok (c.new.ensures out)))

pub do_new-requires-clause-place : goal.do_new-requires-clause-place
do_new-requires-clause-place g c =
    place_case c.args.zone.now c.args.self.now.shared c.in_ok-cell.cell.value c.args.event.now (λ v. decide_read v c.args.read) c.in_ok-case.case c.args.stated c.in_ok-case.grant c.requires.decides
    (rw c.deref.ensures at c.in_ok-case.ensures.case) (rw c.deref.ensures at c.in_ok-case.ensures.takes)

pub returns-in_err-cell-clause-goes : goal.returns-in_err-cell-clause-goes
returns-in_err-cell-clause-goes g c = goes-unwritten c.args.stated c.args.self.now c.args.event.now c.args.bank.now (g.D.Disk.view c.args.bank.now.disk) (g.met.D.Disk.sound c.args.bank.now.disk) c.requires.ready

pub returns-in_err-reply-clause-fault : goal.returns-in_err-reply-clause-fault
returns-in_err-reply-clause-fault g c =
    let m = c.args.self.now in let z = c.args.zone.now in
    let takes : IsTaken m c.args.stated c.args.event.now c.in_ok-case.grant =
    taken m z c.args.event.now c.in_ok-cell.cell.value (λ v. decide_read v c.args.read) c.requires.of (same_none m z c.in_ok-cell.cell.value c.requires.none (λ out. rw c.in_ok-cell.ensures.ok (c.new.ensures out))) c.requires.decides
    c.args.stated c.in_ok-case.case c.in_ok-case.grant (rw c.deref.ensures at c.in_ok-case.ensures.case) (rw c.deref.ensures at c.in_ok-case.ensures.takes) in
    let said : IfErr c.from_residual-in_err-reply.result (λ fault. LeavesGranted fault c.in_ok-case.grant m c.args.event.now c.do_new.new.self) = search rules in
    if_err c.from_residual-in_err-reply.result _ _ (leaves-stated c.args.stated c.in_ok-case.grant m c.do_new.new.self c.args.event.now takes) said

pub returns-in_err-reply-clause-goes : goal.returns-in_err-reply-clause-goes
returns-in_err-reply-clause-goes g c =
    let m = c.args.self.now in let z = c.args.zone.now in
    let takes : IsTaken m c.args.stated c.args.event.now c.in_ok-case.grant =
    taken m z c.args.event.now c.in_ok-cell.cell.value (λ v. decide_read v c.args.read) c.requires.of (same_none m z c.in_ok-cell.cell.value c.requires.none (λ out. rw c.in_ok-cell.ensures.ok (c.new.ensures out))) c.requires.decides
    c.args.stated c.in_ok-case.case c.in_ok-case.grant (rw c.deref.ensures at c.in_ok-case.ensures.case) (rw c.deref.ensures at c.in_ok-case.ensures.takes) in
    goes-taken m c.args.event.now c.args.stated c.in_ok-case.grant takes _ _ _ c.do_new.ensures.goes

pub returns-clause-goes : goal.returns-clause-goes
returns-clause-goes g c =
    let m = c.args.self.now in let z = c.args.zone.now in
    let takes : IsTaken m c.args.stated c.args.event.now c.in_ok-case.grant =
    taken m z c.args.event.now c.in_ok-cell.cell.value (λ v. decide_read v c.args.read) c.requires.of (same_none m z c.in_ok-cell.cell.value c.requires.none (λ out. rw c.in_ok-cell.ensures.ok (c.new.ensures out))) c.requires.decides
    c.args.stated c.in_ok-case.case c.in_ok-case.grant (rw c.deref.ensures at c.in_ok-case.ensures.case) (rw c.deref.ensures at c.in_ok-case.ensures.takes) in
    goes-taken m c.args.event.now c.args.stated c.in_ok-case.grant takes _ _ _ c.do_new.ensures.goes

pub returns-clause-bodies : goal.returns-clause-bodies
returns-clause-bodies g c =
    let m = c.args.self.now in let z = c.args.zone.now in
    let takes : IsTaken m c.args.stated c.args.event.now c.in_ok-case.grant =
    taken m z c.args.event.now c.in_ok-cell.cell.value (λ v. decide_read v c.args.read) c.requires.of (same_none m z c.in_ok-cell.cell.value c.requires.none (λ out. rw c.in_ok-cell.ensures.ok (c.new.ensures out))) c.requires.decides
    c.args.stated c.in_ok-case.case c.in_ok-case.grant (rw c.deref.ensures at c.in_ok-case.ensures.case) (rw c.deref.ensures at c.in_ok-case.ensures.takes) in
    keeps-taken m c.args.event.now c.args.stated c.in_ok-case.grant takes _ _ c.in_ok-reply.ensures.bodies
