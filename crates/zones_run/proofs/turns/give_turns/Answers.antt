use Rattle.std.proofs.Common.{Err, inl, inr, subst, sym}
use Rattle.std.specs.Prelude.{IfErr}
use Rattle.zn_io.specs.Streams.{after_known}
use Rattle.zones_run.specs.Tracing.{EndsAs}
use Rattle.zones_run.specs.declared.words.Mode.{Mode}
use Rattle.zones_run.proofs.Putting.{puts_none}
use Rattle.zones_run.proofs.TraceRuns.{follows_none}
use Rattle.zones_run.proofs.turns.give_turns.Goals as goal

pub returns-in-Replies-clause-went : goal.returns-in-Replies-clause-went
returns-in-Replies-clause-went g c = λ brands R first held bytes input f. follows_none c.args.mode.now c.args.taken.opened brands R _ _ _ c.args.number _ _ _ _ _ (inl (puts_none c.args.mode.now c.in-Replies.is)) f

pub returns-in-Some-clause-went : goal.returns-in-Some-clause-went
returns-in-Some-clause-went g c = rw (c.in-WithTurns.is, c.in-Some.is) c.until_answered.ensures.went

pub returns-in-Some-clause-ended : goal.returns-in-Some-clause-ended
returns-in-Some-clause-ended g c = λ brands R first held bytes input f left written piece.
    let holds = g.K.Sink.holds c.until_answered.new.out in
    subst (λ (t : Mode). IfErr c.until_answered.result (λ fault. EndsAs t brands R (Err fault) input left held holds (after_known holds c.until_answered.new.waiting.items))) (sym c.in-WithTurns.is)
    (c.until_answered.ensures.ended brands R first held bytes input (rw (c.in-WithTurns.is, c.in-Some.is) at f) left written piece)

pub returns-in-Some-clause-recorded : goal.returns-in-Some-clause-recorded
returns-in-Some-clause-recorded g c = rw (c.in-WithTurns.is, c.in-Some.is) c.until_answered.ensures.recorded

pub returns-in-None-clause-went : goal.returns-in-None-clause-went
returns-in-None-clause-went g c = λ brands R first held bytes input f. follows_none c.args.mode.now c.args.taken.opened brands R _ _ _ c.args.number _ _ _ _ _ (inr c.in-None.is) f
