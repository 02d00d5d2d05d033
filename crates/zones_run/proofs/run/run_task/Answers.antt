use Rattle.std.proofs.Common.{arith, refl}
use Rattle.zones_run.specs.Output.{Output}
use Rattle.zones_run.specs.Run.{TellsLine, TellsText}
use Rattle.zones_run.proofs.Opened.{keeps_store}
use Rattle.zones_run.proofs.Tasks.{bulk_answers, bulk_done, bulk_few, bulk_records, index_answers, index_done, index_records, run_answers, run_done, run_finds, run_records}
use Rattle.zones_run.proofs.run.run_task.Goals as goal

pub returns-in-Run-clause-text : goal.returns-in-Run-clause-text
returns-in-Run-clause-text g c = λ brands R s finds.
    let input = g.S.Source.left c.args.src.now in
    let left = g.S.Source.left c.run_lines.new.src in
    let held = g.K.Sink.holds c.args.out.now in
    let holds = g.K.Sink.holds c.run_lines.new.out in
    run_done c.args.task.now c.in-Run.mode c.in-Run.is brands R c.run_lines.result input left held holds (λ (o : Output). TellsText o c.run_lines.result held holds)
    (c.run_lines.ensures.text brands R s (run_finds c.args.task.now c.in-Run.mode c.in-Run.is brands R c.run_lines.result input left held holds (g.D.Disk.view c.args.machine.now.bank.disk) finds))

pub returns-in-Run-clause-line : goal.returns-in-Run-clause-line
returns-in-Run-clause-line g c = λ brands R s finds.
    let input = g.S.Source.left c.args.src.now in
    let left = g.S.Source.left c.run_lines.new.src in
    let held = g.K.Sink.holds c.args.out.now in
    let holds = g.K.Sink.holds c.run_lines.new.out in
    run_done c.args.task.now c.in-Run.mode c.in-Run.is brands R c.run_lines.result input left held holds (λ (o : Output). TellsLine o.err c.run_lines.result (g.E.Sink.holds c.args.err.now) (g.E.Sink.holds c.run_lines.new.err) (g.E.Sink.faults c.args.err.now) (g.E.Sink.faults c.run_lines.new.err))
    (c.run_lines.ensures.line brands R s (run_finds c.args.task.now c.in-Run.mode c.in-Run.is brands R c.run_lines.result input left held holds (g.D.Disk.view c.args.machine.now.bank.disk) finds))

pub returns-in-Run-clause-answered : goal.returns-in-Run-clause-answered
returns-in-Run-clause-answered g c = λ brands R s finds.
    let input = g.S.Source.left c.args.src.now in
    let left = g.S.Source.left c.run_lines.new.src in
    let held = g.K.Sink.holds c.args.out.now in
    let holds = g.K.Sink.holds c.run_lines.new.out in
    run_answers c.args.task.now c.in-Run.mode c.in-Run.is brands R c.run_lines.result input left held holds
    (c.run_lines.ensures.answered brands R s (run_finds c.args.task.now c.in-Run.mode c.in-Run.is brands R c.run_lines.result input left held holds (g.D.Disk.view c.args.machine.now.bank.disk) finds))

pub returns-in-Run-clause-recorded : goal.returns-in-Run-clause-recorded
returns-in-Run-clause-recorded g c = λ brands R s is.
    let input = g.S.Source.left c.args.src.now in
    let left = g.S.Source.left c.run_lines.new.src in
    let held = g.K.Sink.holds c.args.out.now in
    let holds = g.K.Sink.holds c.run_lines.new.out in
    run_records c.args.task.now c.in-Run.mode c.in-Run.is brands R c.run_lines.result input left held holds (g.D.Disk.view c.args.machine.now.bank.disk) (g.D.Disk.view c.run_lines.new.machine.bank.disk) (c.run_lines.ensures.recorded brands R s is)

pub returns-in-Index-clause-text : goal.returns-in-Index-clause-text
returns-in-Index-clause-text g c = λ brands R s finds.
    let input = g.S.Source.left c.args.src.now in
    let held = g.K.Sink.holds c.args.out.now in
    let holds = g.K.Sink.holds c.run_index.new.out in
    index_done c.args.task.now c.in-Index.is brands R c.run_index.result input input held holds (λ (o : Output). TellsText o c.run_index.result held holds) (c.run_index.ensures.text brands R s)

pub returns-in-Index-clause-line : goal.returns-in-Index-clause-line
returns-in-Index-clause-line g c = λ brands R s finds.
    let input = g.S.Source.left c.args.src.now in
    let held = g.K.Sink.holds c.args.out.now in
    let holds = g.K.Sink.holds c.run_index.new.out in
    index_done c.args.task.now c.in-Index.is brands R c.run_index.result input input held holds (λ (o : Output). TellsLine o.err c.run_index.result (g.E.Sink.holds c.args.err.now) (g.E.Sink.holds c.run_index.new.err) (g.E.Sink.faults c.args.err.now) (g.E.Sink.faults c.run_index.new.err)) c.run_index.ensures.line

pub returns-in-Index-clause-answered : goal.returns-in-Index-clause-answered
returns-in-Index-clause-answered g c = λ brands R s finds.
    let input = g.S.Source.left c.args.src.now in
    let held = g.K.Sink.holds c.args.out.now in
    let holds = g.K.Sink.holds c.run_index.new.out in
    index_answers c.args.task.now c.in-Index.is brands R c.run_index.result input input held holds (record { taken = refl; nothing = λ f. c.run_index.ensures.nothing (grind (arith, f, c.run_index.ensures.statuses)) })

pub returns-in-Index-clause-recorded : goal.returns-in-Index-clause-recorded
returns-in-Index-clause-recorded g c = λ brands R s is.
    let input = g.S.Source.left c.args.src.now in
    let held = g.K.Sink.holds c.args.out.now in
    let holds = g.K.Sink.holds c.run_index.new.out in
    let v = g.D.Disk.view c.args.machine.now.bank.disk in
    index_records c.args.task.now c.in-Index.is brands R c.run_index.result input input held holds v v (keeps_store R v (g.met.D.Disk.sound c.args.machine.now.bank.disk) is)

pub run_bulk-requires-clause-few : goal.run_bulk-requires-clause-few
run_bulk-requires-clause-few g c =
    let input = g.S.Source.left c.args.src.now in
    let held = g.K.Sink.holds c.args.out.now in
    bulk_few c.args.task.now c.in-Bulk.zones c.in-Bulk.is (c.requires.stands.0) (c.requires.stands.1.0) 0 input input held held c.requires.few

pub returns-in-Bulk-clause-text : goal.returns-in-Bulk-clause-text
returns-in-Bulk-clause-text g c = λ brands R s finds.
    let input = g.S.Source.left c.args.src.now in
    let held = g.K.Sink.holds c.args.out.now in
    let holds = g.K.Sink.holds c.run_bulk.new.out in
    bulk_done c.args.task.now c.in-Bulk.zones c.in-Bulk.is brands R c.run_bulk.result input input held holds (λ (o : Output). TellsText o c.run_bulk.result held holds) (c.run_bulk.ensures.text brands R s)

pub returns-in-Bulk-clause-line : goal.returns-in-Bulk-clause-line
returns-in-Bulk-clause-line g c = λ brands R s finds.
    let input = g.S.Source.left c.args.src.now in
    let held = g.K.Sink.holds c.args.out.now in
    let holds = g.K.Sink.holds c.run_bulk.new.out in
    bulk_done c.args.task.now c.in-Bulk.zones c.in-Bulk.is brands R c.run_bulk.result input input held holds (λ (o : Output). TellsLine o.err c.run_bulk.result (g.E.Sink.holds c.args.err.now) (g.E.Sink.holds c.run_bulk.new.err) (g.E.Sink.faults c.args.err.now) (g.E.Sink.faults c.run_bulk.new.err)) (c.run_bulk.ensures.line brands R s)

pub returns-in-Bulk-clause-answered : goal.returns-in-Bulk-clause-answered
returns-in-Bulk-clause-answered g c = λ brands R s finds.
    let input = g.S.Source.left c.args.src.now in
    let held = g.K.Sink.holds c.args.out.now in
    let holds = g.K.Sink.holds c.run_bulk.new.out in
    bulk_answers c.args.task.now c.in-Bulk.zones c.in-Bulk.is brands R c.run_bulk.result input input held holds (record { taken = refl; nothing = λ f. c.run_bulk.ensures.nothing (grind (arith, f, c.run_bulk.ensures.statuses)) })

pub returns-in-Bulk-clause-recorded : goal.returns-in-Bulk-clause-recorded
returns-in-Bulk-clause-recorded g c = λ brands R s is.
    let input = g.S.Source.left c.args.src.now in
    let held = g.K.Sink.holds c.args.out.now in
    let holds = g.K.Sink.holds c.run_bulk.new.out in
    bulk_records c.args.task.now c.in-Bulk.zones c.in-Bulk.is brands R c.run_bulk.result input input held holds (g.D.Disk.view c.args.machine.now.bank.disk) (g.D.Disk.view c.run_bulk.new.machine.bank.disk) (c.run_bulk.ensures.recorded brands R s is)

pub returns-in-Run-clause-unread : goal.returns-in-Run-clause-unread
returns-in-Run-clause-unread g c = λ none. absurd (rw c.in-Run.is at none)
