use Rattle.std.proofs.Common.{◌≡◌, ◌∙◌, ap, subst, true}
use Rattle.commit_journal.specs.Zones.{rows_of}
use Rattle.zone_machine.proofs.Storing.{case-stored}
use Rattle.zone_machine.proofs.Writing.{ready-more}
use Rattle.zone_machine.specs.Code.Records.{rows_with, stored_by, used_with}
use Rattle.zone_machine.proofs.Acting.{opens_alike}
use Rattle.zone_machine.proofs.Doing_laws.{acts_whole}
use Rattle.zone_machine.proofs.Standing.{answered}
use Rattle.zone_cases.specs.Code.Cases.{decision_of}
use Rattle.zone_machine.specs.Code.Cells.{Acts}
use Rattle.zone_machine.specs.Code.Works.{rest_of}
use Rattle.zone_machine.specs.Machine.{session_number}
use Rattle.zone_machine.specs.Machine.Common.{came_common}
use Rattle.zone_cases.specs.State.Decisions.{Decision, act_of, acts_world}
use Rattle.zoneadmd_steps.specs.Arrivals.{in_store}
use Rattle.zone_machine.proofs.machine.steps.perform_case.Goals as goal

pub returns-clause-step : goal.returns-clause-step
returns-clause-step g c =
    let z = c.args.zone.now in let case = c.args.case in let g = c.args.grant in let n = session_number c.args.event.now in
    let c0 = c.args.cell.now in let c2 = c.make_ready.new.cell in let c3 = c.perform-reply.new.cell in
    let s0 = c.args.shared.now in let s2 = c.make_ready.new.shared in let s3 = c.perform-reply.new.shared in
    let same : decision_of c2.desk case ≡ decision_of c0.desk case = c.in-Ok.ensures.same in
    answered z c0 c3 s0 s3 c.args.event.now g c.perform-reply.result case c.requires.case.decided
    (c.perform-reply.ensures.reply ∙ ap (λ (d : Decision). (act_of d g).effect.reply) same)
    (λ opens. acts_whole z n (act_of (decision_of c0.desk case) g) c0 c2 c3 s0 s2 s3 c.in-Ok.ensures.up c.in-Ok.ensures.active c.in-Ok.ensures.does
    (subst (λ (d : Decision). Acts z (acts_world n (rest_of (act_of d g))) (came_common z (in_store (act_of d g).came)) c2 s2 c3 s3) same
    (rw (← c.session_number-number.ensures) (c.perform-reply.ensures.does c.requires.case.named (rw c.session_number-number.ensures (opens_alike z n s0 s2 c.in-Ok.ensures.sessions opens))))))

pub returns-clause-ready : goal.returns-clause-ready
returns-clause-ready g c =
    let z = c.args.zone.now in let case = c.args.case in let s0 = c.args.shared.now in let s2 = c.make_ready.new.shared in let s3 = c.perform-reply.new.shared in
    let made = c.in-Ok.ensures in
    let stored = stored_by case c.args.grant in
    let is : in_store (act_of (decision_of c.make_ready.new.cell.desk case) c.args.grant).came ≡ stored = case-stored c.make_ready.new.cell.desk case c.args.grant made.of c.requires.numbered in
    ready-more z stored (g.D.Disk.view c.make_ready.new.bank.disk) c.args.bank.now c.make_ready.new.bank s0 (record s3 { started = true }) made.sound made.zones
    (c.perform-reply.ensures.rows ∙ (ap (λ o. rows_with z o (rows_of s2.rows.entries)) is ∙ ap (λ es. rows_with z stored (rows_of es)) made.rows)) made.records
    (c.perform-reply.ensures.used ∙ (ap (λ o. used_with z o s2.used) is ∙ ap (used_with z stored) made.used)) c.requires.ready.used made.settled
