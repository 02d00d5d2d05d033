use Rattle.std.proofs.Common.{IfSome, arith, inl, inr, refl, rules}
use Rattle.brand_hooks.specs.Brands.{tables_of}
use Rattle.zones_run.specs.Opening.{Found}
use Rattle.zones_run.specs.Program.{AnswersOn, done_on}
use Rattle.zones_run.specs.Run.{TellsLine, TellsText}
use Rattle.zones_run.specs.declared.fault.RunFault.TheVariants.{Disk, Memory}
use Rattle.zones_run.specs.declared.outcome.Complaint.TheVariants.{NotAStore}
use Rattle.zones_run.proofs.Opened.{answers_nothing, line_no_store, line_refused, opened, opened_store, opens_refused, records_later, records_nothing, still_store, text_no_store, text_refused}
use Rattle.zones_run.proofs.Telling.{line_complained, never_whole}
use Rattle.zones_run.proofs.run.run_on_store.Goals as goal

pub returns-in-Ok-clause-text : goal.returns-in-Ok-clause-text
returns-in-Ok-clause-text g c =
    let held = g.K.Sink.holds c.args.out.now in
    let holds = g.K.Sink.holds c.run_task-status.new.out in
    opened (λ (f : Found). IfSome (done_on c.args.task.now (tables_of c.args.brands.now) f (g.S.Source.left c.args.src.now)) (λ o. TellsText o c.run_task-status.result held holds)) (tables_of c.args.brands.now) (g.D.Disk.view c.args.disk) c.in-Ok.opened tt (λ keeps R s. c.run_task-status.ensures.text (tables_of c.args.brands.now) R s (inl (c.in-Ok.ensures.passes.model.0 keeps))) c.in-Ok.ensures.stands c.in-Ok.ensures.opens c.opens_store_one_way.ensures

pub returns-in-Ok-clause-line : goal.returns-in-Ok-clause-line
returns-in-Ok-clause-line g c =
    let held = g.E.Sink.holds c.args.err.now in
    let holds = g.E.Sink.holds c.run_task-status.new.err in
    let before = g.E.Sink.faults c.args.err.now in
    let now = g.E.Sink.faults c.run_task-status.new.err in
    opened (λ (f : Found). IfSome (done_on c.args.task.now (tables_of c.args.brands.now) f (g.S.Source.left c.args.src.now)) (λ o. TellsLine o.err c.run_task-status.result held holds before now)) (tables_of c.args.brands.now) (g.D.Disk.view c.args.disk) c.in-Ok.opened tt (λ keeps R s. c.run_task-status.ensures.line (tables_of c.args.brands.now) R s (inl (c.in-Ok.ensures.passes.model.0 keeps))) c.in-Ok.ensures.stands c.in-Ok.ensures.opens c.opens_store_one_way.ensures

pub returns-in-Ok-clause-answered : goal.returns-in-Ok-clause-answered
returns-in-Ok-clause-answered g c =
    opened (λ (f : Found). AnswersOn c.args.task.now (tables_of c.args.brands.now) f c.run_task-status.result (g.S.Source.left c.args.src.now) (g.S.Source.left c.run_task-status.new.src) (g.K.Sink.holds c.args.out.now) (g.K.Sink.holds c.run_task-status.new.out)) (tables_of c.args.brands.now) (g.D.Disk.view c.args.disk) c.in-Ok.opened tt (λ keeps R s. c.run_task-status.ensures.answered (tables_of c.args.brands.now) R s (inl (c.in-Ok.ensures.passes.model.0 keeps))) c.in-Ok.ensures.stands c.in-Ok.ensures.opens c.opens_store_one_way.ensures

pub returns-in-Ok-clause-any_disk : goal.returns-in-Ok-clause-any_disk
returns-in-Ok-clause-any_disk g c = λ none.
    let brands = tables_of c.args.brands.now in let ran = c.run_task-status.ensures in let begins = c.in-Ok.ensures.begins in
    inl (begins.0, record { text = ran.text brands begins.0 begins.1 (inr none); line = ran.line brands begins.0 begins.1 (inr none); answered = ran.answered brands begins.0 begins.1 (inr none) })

pub returns-in-Err-Memory-default-clause-any_disk : goal.returns-in-Err-Memory-default-clause-any_disk
returns-in-Err-Memory-default-clause-any_disk g c = λ none. inr (record { answers = record { taken = refl; nothing = refl }; cut = λ w. grind (arith, w, c.fail.ensures.status) })

pub returns-in-Err-DiskFault-default-clause-any_disk : goal.returns-in-Err-DiskFault-default-clause-any_disk
returns-in-Err-DiskFault-default-clause-any_disk g c = λ none. inr (record { answers = record { taken = refl; nothing = refl }; cut = λ w. grind (arith, w, c.fail-in-Err-DiskFault-default.ensures.status) })

pub returns-in-Err-clause-any_disk : goal.returns-in-Err-clause-any_disk
returns-in-Err-clause-any_disk g c = λ none. inr (record { answers = record { taken = refl; nothing = refl }; cut = never_whole c.complain.result c.in-Err.fault c.complain.ensures.statuses })

pub returns-in-Ok-clause-recorded : goal.returns-in-Ok-clause-recorded
returns-in-Ok-clause-recorded g c = λ R is.
    let u = g.D.Disk.view c.args.disk in
    let v = g.D.Disk.view c.in-Ok.opened.bank.disk in
    let w = g.D.Disk.view c.run_task-status.new.machine.bank.disk in
    let stands = opened_store (tables_of c.args.brands.now) R u c.in-Ok.opened (g.met.D.Disk.sound c.args.disk) is c.in-Ok.ensures.stands in
    let store = still_store (tables_of c.args.brands.now) R u v c.in-Ok.opened is stands c.in-Ok.ensures.ready c.in-Ok.ensures.passes in
    rw c.into_disk.ensures (records_later c.args.task.now (tables_of c.args.brands.now) R c.run_task-status.result _ _ _ u v w (c.in-Ok.ensures.any_moment R is) (c.run_task-status.ensures.recorded (tables_of c.args.brands.now) R stands store))

pub returns-in-Err-Memory-default-clause-text : goal.returns-in-Err-Memory-default-clause-text
returns-in-Err-Memory-default-clause-text g c = λ found finds. text_refused c.args.task.now (tables_of c.args.brands.now) Memory c.fail.result _ _ found c.fail.ensures.status (λ f. omega (arith, f, c.fail.ensures.status))

pub returns-in-Err-Memory-default-clause-line : goal.returns-in-Err-Memory-default-clause-line
returns-in-Err-Memory-default-clause-line g c = λ found finds. line_refused c.args.task.now (tables_of c.args.brands.now) Memory c.fail.result _ _ _ _ _ found c.fail.ensures.status (λ f. omega (arith, f, c.fail.ensures.status))

pub returns-in-Err-Memory-default-clause-answered : goal.returns-in-Err-Memory-default-clause-answered
returns-in-Err-Memory-default-clause-answered g c = λ found finds. answers_nothing c.args.task.now (tables_of c.args.brands.now) c.fail.result _ _ found

pub returns-in-Err-Memory-default-clause-recorded : goal.returns-in-Err-Memory-default-clause-recorded
returns-in-Err-Memory-default-clause-recorded g c = λ R is. records_nothing c.args.task.now (tables_of c.args.brands.now) R c.fail.result _ _ (g.D.Disk.view c.args.disk) (g.D.Disk.view c.in-Err-Memory-default.disk) (g.met.D.Disk.sound c.in-Err-Memory-default.disk) (c.in-Err-Memory-default.ensures.any_moment_err R is) (λ w. grind (arith, w, c.fail.ensures.status))

pub returns-in-Err-DiskFault-default-clause-text : goal.returns-in-Err-DiskFault-default-clause-text
returns-in-Err-DiskFault-default-clause-text g c = λ found finds. text_refused c.args.task.now (tables_of c.args.brands.now) Disk c.fail-in-Err-DiskFault-default.result _ _ found c.fail-in-Err-DiskFault-default.ensures.status (λ f. omega (arith, f, c.fail-in-Err-DiskFault-default.ensures.status))

pub returns-in-Err-DiskFault-default-clause-line : goal.returns-in-Err-DiskFault-default-clause-line
returns-in-Err-DiskFault-default-clause-line g c = λ found finds. line_refused c.args.task.now (tables_of c.args.brands.now) Disk c.fail-in-Err-DiskFault-default.result _ _ _ _ _ found c.fail-in-Err-DiskFault-default.ensures.status (λ f. omega (arith, f, c.fail-in-Err-DiskFault-default.ensures.status))

pub returns-in-Err-DiskFault-default-clause-answered : goal.returns-in-Err-DiskFault-default-clause-answered
returns-in-Err-DiskFault-default-clause-answered g c = λ found finds. answers_nothing c.args.task.now (tables_of c.args.brands.now) c.fail-in-Err-DiskFault-default.result _ _ found

pub returns-in-Err-DiskFault-default-clause-recorded : goal.returns-in-Err-DiskFault-default-clause-recorded
returns-in-Err-DiskFault-default-clause-recorded g c = λ R is. records_nothing c.args.task.now (tables_of c.args.brands.now) R c.fail-in-Err-DiskFault-default.result _ _ (g.D.Disk.view c.args.disk) (g.D.Disk.view c.in-Err-DiskFault-default.disk) (g.met.D.Disk.sound c.in-Err-DiskFault-default.disk) (c.in-Err-DiskFault-default.ensures.any_moment_err R is) (λ w. grind (arith, w, c.fail-in-Err-DiskFault-default.ensures.status))

pub returns-in-Err-clause-text : goal.returns-in-Err-clause-text
returns-in-Err-clause-text g c = λ found finds. text_no_store c.args.task.now (tables_of c.args.brands.now) c.in-Err.fault c.complain.result _ _ (g.D.Disk.view c.args.disk) found c.complain.ensures.statuses (opens_refused c.in-Err.fault (g.D.Disk.view c.args.disk) c.in-Err.ensures.refuses (search rules) (search rules)) c.opens_store_one_way.ensures finds

pub returns-in-Err-clause-line : goal.returns-in-Err-clause-line
returns-in-Err-clause-line g c = λ found finds. line_no_store c.args.task.now (tables_of c.args.brands.now) c.in-Err.fault c.complain.result _ _ _ _ _ (g.D.Disk.view c.args.disk) found (line_complained c.complain.result (NotAStore c.in-Err.fault) _ _ _ _ c.complain.ensures.statuses c.complain.ensures.refused c.complain.ensures.line c.complain.ensures.told) (opens_refused c.in-Err.fault (g.D.Disk.view c.args.disk) c.in-Err.ensures.refuses (search rules) (search rules)) c.opens_store_one_way.ensures finds

pub returns-in-Err-clause-answered : goal.returns-in-Err-clause-answered
returns-in-Err-clause-answered g c = λ found finds. answers_nothing c.args.task.now (tables_of c.args.brands.now) c.complain.result _ _ found

pub returns-in-Err-clause-store : goal.returns-in-Err-clause-store
returns-in-Err-clause-store g c = λ is keeps. (c.in-Err.fault, (opens_refused c.in-Err.fault (g.D.Disk.view c.args.disk) c.in-Err.ensures.refuses (search rules) (search rules)) keeps)

pub returns-in-Err-clause-recorded : goal.returns-in-Err-clause-recorded
returns-in-Err-clause-recorded g c = λ R is. records_nothing c.args.task.now (tables_of c.args.brands.now) R c.complain.result _ _ (g.D.Disk.view c.args.disk) (g.D.Disk.view c.in-Err.disk) (g.met.D.Disk.sound c.in-Err.disk) (c.in-Err.ensures.any_moment_err R is) (never_whole c.complain.result c.in-Err.fault c.complain.ensures.statuses)

pub returns-in-Ok-clause-store : goal.returns-in-Ok-clause-store
returns-in-Ok-clause-store g c = λ is keeps. absurd (c.run_task-status.ensures.store (c.in-Ok.ensures.passes.model.0 keeps) is)
