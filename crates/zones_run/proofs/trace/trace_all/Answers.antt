use Rattle.zones_run.proofs.TraceEnds.{ends_unwritten}
use Rattle.zones_run.proofs.TraceRecords.{ran_unwritten}
use Rattle.zones_run.proofs.trace.trace_all.Goals as goal

pub returns-clause-ran : goal.returns-clause-ran
returns-clause-ran g c = λ brands R s a.
    let ended = c.take_lines-ended.ensures in
    ends_unwritten c.args.mode.now brands R c.take_lines-ended.result _ _ _ _ _ c.take_lines-ended.new.waiting.items ended.written c.in-Err.ensures.front c.in-Err.ensures.some ended.none (ended.ran brands R s a)

pub returns-clause-recorded : goal.returns-clause-recorded
returns-clause-recorded g c = λ brands R s is.
    let ended = c.take_lines-ended.ensures in
    ran_unwritten c.args.mode.now brands R c.take_lines-ended.result _ _ _ _ c.take_lines-ended.new.waiting.items (g.D.Disk.view c.args.machine.now.bank.disk) (g.D.Disk.view c.take_lines-ended.new.machine.bank.disk) c.in-Err.ensures.some ended.none (ended.recorded brands R s is)
