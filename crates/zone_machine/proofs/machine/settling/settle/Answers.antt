use Rattle.zoneadmd_steps.specs.Code.Desks.{as_desk}
use Rattle.std.proofs.Common.{Some, ap, refl, sym, ◌∙◌}
use Rattle.zoneadmd_steps.specs.Desks.{Desk}
use Rattle.zone_cases.proofs.Gone_laws.{nothing_told}
use Rattle.zone_machine.proofs.Turned_laws.{settled_turn, works_same}
use Rattle.zoneadmd_steps.specs.Code.Cases.{turn_decision_of}
use Rattle.zone_cases.specs.Code.Doings.{sits}
use Rattle.zone_cases.specs.State.Edits.{edits_world}
use Rattle.zone_machine.proofs.machine.settling.settle.Goals as goal

pub returns-in-Says-clause-works : goal.returns-in-Says-clause-works
returns-in-Says-clause-works c = λ n v desk. rw (c.in-Says.is, c.saying.ensures) (record { came = refl; reply = nothing_told _; world = ap (λ (d : Desk). record v { desk = d }) (sym desk) })

pub returns-in-Answers-clause-works : goal.returns-in-Answers-clause-works
returns-in-Answers-clause-works c = λ n v desk. rw (c.in-Answers.is, c.replying.ensures) (record { came = refl; reply = nothing_told _ ∙ c.into_inner.ensures; world = ap (λ (d : Desk). record v { desk = d }) (sym desk) })

pub returns-in-Sit-clause-works : goal.returns-in-Sit-clause-works
returns-in-Sit-clause-works c = λ n v desk. rw (c.in-Sit.is, c.seat.ensures) (record { came = refl; reply = nothing_told _; world = ap (λ (d : Desk). edits_world n (sits (Some c.in-Sit.seated.value.sitting)) (record v { desk = d })) (sym desk) })

pub returns-in-Commit-clause-works : goal.returns-in-Commit-clause-works
returns-in-Commit-clause-works c = λ n v desk. rw c.in-Commit.is (c.commit.ensures.works n v (as_desk c.args.desk.now) desk)

pub returns-in-Remove-clause-works : goal.returns-in-Remove-clause-works
returns-in-Remove-clause-works c = λ n v desk. rw c.in-Remove.is (c.remove.ensures.works n v (as_desk c.args.desk.now) desk)

pub returns-in-Fork-clause-works : goal.returns-in-Fork-clause-works
returns-in-Fork-clause-works c = λ n v desk. rw c.in-Fork.is (c.fork.ensures.works n v c.args.desk.now (as_desk c.args.desk.now) desk)

pub returns-in-Turn-clause-works : goal.returns-in-Turn-clause-works
returns-in-Turn-clause-works c = λ n v is. rw c.in-Turn.is
    (works_same n _ v (as_desk c.settle_turn.new.desk) c.of_turn.result
    (settled_turn (turn_decision_of c.args.desk.now c.in-Turn.case) c.args.grant c.settle_turn.result (as_desk c.settle_turn.new.desk) c.settle_turn.ensures.act ∙ sym (c.of_turn.ensures.act (as_desk c.settle_turn.new.desk))))

pub returns-in-Turn-clause-named : goal.returns-in-Turn-clause-named
returns-in-Turn-clause-named c = λ z h. record { stored = c.of_turn.ensures.stored z (c.settle_turn.ensures.named z (rw c.in-Turn.is at h)); sits = rw c.of_turn.ensures.sits tt }

pub returns-in-Login-clause-works : goal.returns-in-Login-clause-works
returns-in-Login-clause-works c = λ n v desk. rw c.in-Login.is (c.log_in.ensures.works n v c.args.desk.now (as_desk c.args.desk.now) desk)

pub returns-in-Enter-clause-works : goal.returns-in-Enter-clause-works
returns-in-Enter-clause-works c = λ n v desk. rw c.in-Enter.is (c.run_errand.ensures.works n v c.args.desk.now (as_desk c.args.desk.now) desk)
