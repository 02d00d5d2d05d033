use Rattle.std.proofs.Common.{◌∙◌, Option, ap, arith, refl, subst, sym}
use Rattle.zones_run.specs.Run.{TellsLine}
use Rattle.zones_run.specs.Tracing.{left_to_tell}
use Rattle.zones_run.specs.declared.outcome.Complaint.{Complaint}
use Rattle.zones_run.proofs.Telling.{answers_failed, answers_told, if_some, line_complained, line_failed, line_nothing, line_told, never_read, never_store, ran_failed, ran_told, status_told, text_ended, text_told}
use Rattle.zones_run.proofs.run.run_lines.Goals as goal

pub returns-in-Ok-None-clause-text : goal.returns-in-Ok-None-clause-text
returns-in-Ok-None-clause-text g c = λ brands R s a. text_told c.args.mode.now brands R c.in-Ok-None.field-0 0 _ _ _ (λ d. rw c.in-Ok-None.field-0-is refl) (c.in-Ok-None.ensures.ran brands R s a).0

pub returns-in-Ok-None-clause-line : goal.returns-in-Ok-None-clause-line
returns-in-Ok-None-clause-line g c = λ brands R s a.
    let held = g.E.Sink.holds c.args.err.now in
    let count = g.E.Sink.faults c.args.err.now in
    line_told c.args.mode.now brands R c.in-Ok-None.field-0 0 _ _ _ held held count count (rw c.in-Ok-None.field-0-is (line_nothing held held count count 0 refl (λ f. absurd (omega (arith, f))))) (c.in-Ok-None.ensures.ran brands R s a).0

pub returns-in-Ok-None-clause-answered : goal.returns-in-Ok-None-clause-answered
returns-in-Ok-None-clause-answered g c = λ brands R s a. answers_told c.args.mode.now brands R c.in-Ok-None.field-0 0 _ _ _ _ (λ r. omega (arith, r)) (c.in-Ok-None.ensures.ran brands R s a)

pub returns-in-Ok-None-clause-recorded : goal.returns-in-Ok-None-clause-recorded
returns-in-Ok-None-clause-recorded g c = λ brands R s is. ran_told c.args.mode.now brands R c.in-Ok-None.field-0 0 _ _ _ (g.D.Disk.view c.args.machine.now.bank.disk) (g.D.Disk.view c.trace_all.new.machine.bank.disk) (c.in-Ok-None.ensures.recorded brands R s is)

pub returns-in-Ok-Some-clause-text : goal.returns-in-Ok-Some-clause-text
returns-in-Ok-Some-clause-text g c = λ brands R s a.
    text_told c.args.mode.now brands R c.in-Ok-Some.field-0 c.complain.result _ _ _ (λ d. status_told c.complain.result c.in-Ok-Some.complaint c.complain.ensures.statuses d ∙ sym (ap (λ (o : Option Complaint). (left_to_tell o).status) c.in-Ok-Some.field-0-is)) (c.in-Ok-Some.ensures.ran brands R s a).0

pub returns-in-Ok-Some-clause-line : goal.returns-in-Ok-Some-clause-line
returns-in-Ok-Some-clause-line g c = λ brands R s a.
    let held = g.E.Sink.holds c.args.err.now in
    let holds = g.E.Sink.holds c.complain.new.err in
    let before = g.E.Sink.faults c.args.err.now in
    let now = g.E.Sink.faults c.complain.new.err in
    line_told c.args.mode.now brands R c.in-Ok-Some.field-0 c.complain.result _ _ _ held holds before now
    (subst (λ (o : Option Complaint). TellsLine (left_to_tell o).err c.complain.result held holds before now) (sym c.in-Ok-Some.field-0-is) (line_complained c.complain.result c.in-Ok-Some.complaint held holds before now c.complain.ensures.statuses c.complain.ensures.refused c.complain.ensures.line c.complain.ensures.told))
    (c.in-Ok-Some.ensures.ran brands R s a).0

pub returns-in-Ok-Some-clause-answered : goal.returns-in-Ok-Some-clause-answered
returns-in-Ok-Some-clause-answered g c = λ brands R s a. answers_told c.args.mode.now brands R c.in-Ok-Some.field-0 c.complain.result _ _ _ _ (never_read c.complain.result c.in-Ok-Some.complaint c.complain.ensures.statuses) (c.in-Ok-Some.ensures.ran brands R s a)

pub returns-in-Ok-Some-clause-recorded : goal.returns-in-Ok-Some-clause-recorded
returns-in-Ok-Some-clause-recorded g c = λ brands R s is. ran_told c.args.mode.now brands R c.in-Ok-Some.field-0 c.complain.result _ _ _ (g.D.Disk.view c.args.machine.now.bank.disk) (g.D.Disk.view c.trace_all.new.machine.bank.disk) (c.in-Ok-Some.ensures.recorded brands R s is)

pub returns-in-Err-clause-text : goal.returns-in-Err-clause-text
returns-in-Err-clause-text g c = λ brands R s a. text_ended c.args.mode.now brands R c.in-Err.fault c.fail.result _ _ _ _ _ c.fail.ensures.status (c.in-Err.ensures.ran brands R s a)

pub returns-in-Err-clause-line : goal.returns-in-Err-clause-line
returns-in-Err-clause-line g c = λ brands R s a. if_some _ _ (λ bytes. line_failed _ c.in-Err.fault c.fail.result _ _ _ _ c.fail.ensures.status (λ f. (c.fail.ensures.write f).1))

pub returns-in-Err-clause-answered : goal.returns-in-Err-clause-answered
returns-in-Err-clause-answered g c = λ brands R s a. answers_failed c.args.mode.now brands R c.in-Err.fault c.fail.result _ _ _ _ c.fail.ensures.status (c.in-Err.ensures.ran brands R s a)

pub returns-in-Err-clause-recorded : goal.returns-in-Err-clause-recorded
returns-in-Err-clause-recorded g c = λ brands R s is. ran_failed c.args.mode.now brands R _ _ _ (g.D.Disk.view c.args.machine.now.bank.disk) (g.D.Disk.view c.trace_all.new.machine.bank.disk) c.in-Err.fault c.fail.result c.fail.ensures.status (c.in-Err.ensures.recorded brands R s is)

pub returns-in-Ok-Some-clause-store : goal.returns-in-Ok-Some-clause-store
returns-in-Ok-Some-clause-store g c = λ keeps is. never_store c.complain.result c.in-Ok-Some.complaint c.complain.ensures.statuses (rw c.in-Ok-Some.field-0-is at (c.in-Ok-Some.ensures.kind keeps)) is
