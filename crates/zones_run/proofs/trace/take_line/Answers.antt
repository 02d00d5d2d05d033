use Rattle.std.proofs.Common.{refl}
use Rattle.zones_run.specs.Scripts.{said_by}
use Rattle.zones_run.proofs.Answered.{fails_nothing}
use Rattle.zones_run.proofs.TraceEnds.{nothing_written}
use Rattle.zones_run.proofs.TraceRuns.{takes_answered}
use Rattle.zones_run.proofs.trace.take_line.Goals as goal

pub returns-in-Ok-clause-taken : goal.returns-in-Ok-clause-taken
returns-in-Ok-clause-taken g c = λ S s well.
    takes_answered c.args.mode.now S _ _ _ _ _ c.args.line.now c.in-Ok-Some.due c.in-Ok.answer _ _ _ _ _ (c.started.ensures S s.parts) (rw c.in-Ok-Some.field-0-is at c.in-Ok-Some.ensures) (c.in-Ok.ensures.answered S s) c.taken_from.ensures well

pub returns-in-Err-Memory-clause-stopped : goal.returns-in-Err-Memory-clause-stopped
returns-in-Err-Memory-clause-stopped g c = λ S s. fails_nothing _ S (said_by c.args.mode.now S.started c.args.line.now) _ _ refl

pub returns-clause-written : goal.returns-clause-written
returns-clause-written g c = nothing_written (g.K.Sink.holds c.args.out.now)
