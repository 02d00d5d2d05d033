use Rattle.std.proofs.Common.{◌≡◌, Some, ap, rules, subst, sym, ◌∙◌}
use Rattle.std.specs.Prelude.{IfErr}
use Rattle.zone_machine.proofs.Banking.{goes-taken, keeps-taken, leaves-stated}
use Rattle.zone_machine.proofs.Results.{if_err}
use Rattle.zone_machine.specs.Code.Steps.{IsTaken, LeavesGranted}
use Rattle.zone_machine.proofs.Places.{place_case}
use Rattle.zone_machine.proofs.Stepping.{case_freed, heard-at, here_at, left_so, some_is, taken, unfit}
use Rattle.zone_cases.specs.Code.Cases.{decision_of}
use Rattle.zone_machine.specs.Code.Cells.{cell_at}
use Rattle.zone_cases.specs.Code.Cells.{world_or_empty}
use Rattle.zone_machine.specs.Code.Needs.{pools_in}
use Rattle.zone_machine.specs.Code.Reads.{decide_read}
use Rattle.zone_machine.specs.Code.Rooms.{IsFreeOf}
use Rattle.zone_cases.specs.State.Decisions.{act_of}
use Rattle.zone_machine.proofs.machine.parts.Parts.answer_at.Goals as goal

pub returns-in_err-case-clause-fault : goal.returns-in_err-case-clause-fault
returns-in_err-case-clause-fault g c =
    let m = c.args.self.now in let z = c.args.zone.now in let cell = c.index-cell.result.now in
    left_so c.from_residual.result c.args.stated m c.args.event.now (search rules)
    (λ bad. unfit m z c.args.event.now cell (λ v. decide_read v c.args.read) c.requires.of (λ out. ap (world_or_empty out) (here_at m z c.args.at cell c.requires.at c.index-cell.ensures)) c.requires.decides c.args.stated (search rules))

pub do_at-requires-clause-free : goal.do_at-requires-clause-free
do_at-requires-clause-free g c = λ d is.
    let m = c.args.self.now in let z = c.args.zone.now in let cell = c.index-cell.result.now in
    let here : cell_at z m ≡ Some cell = here_at m z c.args.at cell c.requires.at c.index-cell.ensures in
    subst (λ x. IsFreeOf z (act_of (decision_of x.desk c.in_ok-case.case) c.in_ok-case.grant).came (pools_in m.shared)) (some_is cell d (sym here ∙ is))
    (case_freed (pools_in m.shared) z cell.desk c.in_ok-case.case c.args.stated c.in_ok-case.grant c.in_ok-case.ensures.takes)

pub returns-clause-ok : goal.returns-clause-ok
returns-clause-ok g c = λ S h.
    let m = c.args.self.now in let z = c.args.zone.now in let cell = c.index-cell.result.now in
    record {
      takes = taken m z c.args.event.now cell (λ v. decide_read v c.args.read) c.requires.of (λ out. ap (world_or_empty out) (here_at m z c.args.at cell c.requires.at c.index-cell.ensures)) c.requires.decides
          c.args.stated c.in_ok-case.case c.in_ok-case.grant c.in_ok-case.ensures.case c.in_ok-case.ensures.takes S h;
      answers = c.in_ok-reply.ensures.step S h;
    }

pub granted_case-requires-clause-hook : goal.granted_case-requires-clause-hook
granted_case-requires-clause-hook g c = λ turn.
    let m = c.args.self.now in let z = c.args.zone.now in let cell = c.index-cell.result.now in
    heard-at m c.args.event.now z cell c.args.hook c.requires.hook c.requires.of (here_at m z c.args.at cell c.requires.at c.index-cell.ensures) (sym c.requires.turn ∙ turn)

pub do_at-requires-clause-place : goal.do_at-requires-clause-place
do_at-requires-clause-place g c =
    place_case c.args.zone.now c.args.self.now.shared c.index-cell.result.now c.args.event.now (λ v. decide_read v c.args.read) c.in_ok-case.case c.args.stated c.in_ok-case.grant c.requires.decides c.in_ok-case.ensures.case c.in_ok-case.ensures.takes

pub returns-in_err-reply-clause-fault : goal.returns-in_err-reply-clause-fault
returns-in_err-reply-clause-fault g c =
    let m = c.args.self.now in let z = c.args.zone.now in let cell = c.index-cell.result.now in
    let takes : IsTaken m c.args.stated c.args.event.now c.in_ok-case.grant =
    taken m z c.args.event.now cell (λ v. decide_read v c.args.read) c.requires.of (λ out. ap (world_or_empty out) (here_at m z c.args.at cell c.requires.at c.index-cell.ensures)) c.requires.decides
    c.args.stated c.in_ok-case.case c.in_ok-case.grant c.in_ok-case.ensures.case c.in_ok-case.ensures.takes in
    let said : IfErr c.from_residual-in_err-reply.result (λ fault. LeavesGranted fault c.in_ok-case.grant m c.args.event.now c.do_at.new.self) = search rules in
    if_err c.from_residual-in_err-reply.result _ _ (leaves-stated c.args.stated c.in_ok-case.grant m c.do_at.new.self c.args.event.now takes) said

pub returns-in_err-reply-clause-goes : goal.returns-in_err-reply-clause-goes
returns-in_err-reply-clause-goes g c =
    let m = c.args.self.now in let z = c.args.zone.now in let cell = c.index-cell.result.now in
    let takes : IsTaken m c.args.stated c.args.event.now c.in_ok-case.grant =
    taken m z c.args.event.now cell (λ v. decide_read v c.args.read) c.requires.of (λ out. ap (world_or_empty out) (here_at m z c.args.at cell c.requires.at c.index-cell.ensures)) c.requires.decides
    c.args.stated c.in_ok-case.case c.in_ok-case.grant c.in_ok-case.ensures.case c.in_ok-case.ensures.takes in
    goes-taken m c.args.event.now c.args.stated c.in_ok-case.grant takes _ _ _ c.do_at.ensures.goes

pub returns-clause-goes : goal.returns-clause-goes
returns-clause-goes g c =
    let m = c.args.self.now in let z = c.args.zone.now in let cell = c.index-cell.result.now in
    let takes : IsTaken m c.args.stated c.args.event.now c.in_ok-case.grant =
    taken m z c.args.event.now cell (λ v. decide_read v c.args.read) c.requires.of (λ out. ap (world_or_empty out) (here_at m z c.args.at cell c.requires.at c.index-cell.ensures)) c.requires.decides
    c.args.stated c.in_ok-case.case c.in_ok-case.grant c.in_ok-case.ensures.case c.in_ok-case.ensures.takes in
    goes-taken m c.args.event.now c.args.stated c.in_ok-case.grant takes _ _ _ c.do_at.ensures.goes

pub returns-clause-bodies : goal.returns-clause-bodies
returns-clause-bodies g c =
    let m = c.args.self.now in let z = c.args.zone.now in let cell = c.index-cell.result.now in
    let takes : IsTaken m c.args.stated c.args.event.now c.in_ok-case.grant =
    taken m z c.args.event.now cell (λ v. decide_read v c.args.read) c.requires.of (λ out. ap (world_or_empty out) (here_at m z c.args.at cell c.requires.at c.index-cell.ensures)) c.requires.decides
    c.args.stated c.in_ok-case.case c.in_ok-case.grant c.in_ok-case.ensures.case c.in_ok-case.ensures.takes in
    keeps-taken m c.args.event.now c.args.stated c.in_ok-case.grant takes _ _ c.in_ok-reply.ensures.bodies
