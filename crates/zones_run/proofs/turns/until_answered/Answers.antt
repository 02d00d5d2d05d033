use Rattle.std.proofs.Common.{◌≡◌, ◌+◌, ◌-◌, ◌∙◌, zero, suc, false, true, ap, arith, refl, subst, sym}
use Rattle.zone_disk.specs.Bank.{Account}
use Rattle.zone_machine.specs.Code.Openings.{StandsFor}
use Rattle.zn_io.specs.Streams.{after_known}
use Rattle.zone_cases.specs.Events.{is_restart}
use Rattle.zone_cases.specs.declared.events.Event.TheVariants.{Turn}
use Rattle.zones_run.specs.Answering.{Fails, IsAnswered}
use Rattle.zones_run.specs.declared.due.Due.{Due}
use Rattle.zones_run.specs.Midway.{Left, puts_until}
use Rattle.zones_run.specs.declared.words.Mode.TheVariants.{WithTurns}
use Rattle.zones_run.proofs.Answered.{fails_of, leaves_of, passes_on}
use Rattle.zones_run.proofs.Keeping.{keeps_step}
use Rattle.zones_run.proofs.Putting.{next_put, puts_turns}
use Rattle.zones_run.proofs.TraceEnds.{ends_midway, nothing_written, written_on}
use Rattle.zones_run.proofs.TraceRecords.{never_failed, ran_left, ran_turn}
use Rattle.zones_run.proofs.TraceRuns.{follows_all, follows_some, follows_turn}
use Rattle.zones_run.proofs.turns.until_answered.Goals as goal

pub loop-given-init : goal.loop-given-init
loop-given-init g c = record {
  run = λ brands R first held bytes input f. f;
  due = refl;
  asks = c.requires.asks;
  ready = c.requires.ready;
  written = nothing_written (g.K.Sink.holds c.args.out.now);
  write = omega arith;
  passes = record { model = (λ k. k, λ k. k); faults = omega arith };
}

pub answer-requires-clause-stays : goal.answer-requires-clause-stays
answer-requires-clause-stays g c = subst (λ (d : Due). is_restart d.event ≡ false) (sym c.loop-given.invariant.due) refl

pub returns-then-is_last-clause-went : goal.returns-then-is_last-clause-went
returns-then-is_last-clause-went g c = λ brands R first held bytes input f.
    let view = g.D.Disk.view in
    let v = view c.loop-given.machine.bank.disk in
    let w = view c.answer.new.machine.bank.disk in
    let more = 10000000 - (c.loop-given.given + 1) in
    follows_turn c.args.telling brands R (λ S. StandsFor S c.loop-given.machine) (λ S. StandsFor S c.answer.new.machine) (Left brands R (view first) v) (Left brands R (view first) w) v w _ _ c.args.number _ more c.args.opened c.in-Ok.answer true _ _ _ _ _
    (follows_some c.args.telling (10000000 - c.loop-given.given) (suc more) c.args.opened brands R _ _ _ _ _ _ _ _ _ (omega (arith, c.loop-given-test.true)) (c.loop-given.invariant.run brands R first held bytes input f))
    (λ S stood. subst (λ (d : Due). IsAnswered (WithTurns c.args.telling) S d c.in-Ok.answer (λ T. StandsFor T c.answer.new.machine) v w (after_known (g.K.Sink.holds c.loop-given.out) c.loop-given.waiting.items) (after_known (g.K.Sink.holds c.answer.new.out) c.answer.new.waiting.items)) c.loop-given.invariant.due (c.in-Ok.ensures.answered S stood)) c.refused_by-refused.ensures (sym c.if-is_last.true ∙ c.is_last.ensures)
    (λ S entry h reached goes k is. keeps_step brands R h S entry reached (view first) v w goes (k is))

pub returns-then-is_last-clause-written : goal.returns-then-is_last-clause-written
returns-then-is_last-clause-written g c = written_on _ _ _ c.loop-given.invariant.written c.answer.ensures.written

pub returns-then-is_last-clause-none : goal.returns-then-is_last-clause-none
returns-then-is_last-clause-none g c = λ failed. absurd (never_failed _ failed)

pub returns-then-is_last-clause-passes : goal.returns-then-is_last-clause-passes
returns-then-is_last-clause-passes g c = passes_on _ _ _ c.loop-given.invariant.passes c.answer.ensures.passes

pub fault_in-requires : goal.fault_in-requires
fault_in-requires g c = c.in-Err.ensures.unstated (ap (λ (d : Due). d.stated) c.loop-given.invariant.due)

pub returns-in-Err-clause-ended : goal.returns-in-Err-clause-ended
returns-in-Err-clause-ended g c = λ brands R first held bytes input f left written piece.
    let more = 10000000 - (c.loop-given.given + 1) in
    let text = leaves_of c.in-Err.stop c.fault_in.result _ _ _ _ c.fault_in.ensures c.in-Err.ensures.text in
    let now = follows_some c.args.telling (10000000 - c.loop-given.given) (suc more) c.args.opened brands R _ _ _ _ _ _ _ _ _ (omega (arith, c.loop-given-test.true)) (c.loop-given.invariant.run brands R first held bytes input f) in
    ends_midway c.args.telling (puts_until (suc more) c.args.opened c.args.number) brands R (λ S. StandsFor S c.loop-given.machine) c.fault_in.result _ _ _ _ _ _ _ _ _ _ now.run (puts_turns (suc more) c.args.opened c.args.number now.run.state)
    (written_on _ _ _ written c.loop-given.invariant.written) text piece

pub returns-in-Err-clause-recorded : goal.returns-in-Err-clause-recorded
returns-in-Err-clause-recorded g c = λ brands R first held bytes input f is.
    let view = g.D.Disk.view in
    let v = view c.loop-given.machine.bank.disk in
    let w = view c.answer.new.machine.bank.disk in
    let more = 10000000 - (c.loop-given.given + 1) in
    let same = c.answer.new.machine.bank ≡ c.loop-given.machine.bank in
    let text = leaves_of c.in-Err.stop c.fault_in.result _ _ _ _ c.fault_in.ensures c.in-Err.ensures.text in
    let now = follows_some c.args.telling (10000000 - c.loop-given.given) (suc more) c.args.opened brands R _ _ _ _ _ _ _ _ _ (omega (arith, c.loop-given-test.true)) (c.loop-given.invariant.run brands R first held bytes input f) in
    ran_left (WithTurns c.args.telling) brands R c.fault_in.result _ _ _ _ _ _ (view first) w text
    (ran_turn c.args.telling (puts_until (suc more) c.args.opened c.args.number) brands R (λ S. StandsFor S c.loop-given.machine) (view first) v w _ c.args.number _ _ _ _ _ c.fault_in.result same (Turn c.args.opened.zone) _ now is
    (next_put more c.args.opened c.args.number now.run.state)
    (λ S stood. subst (λ (d : Due). Fails c.fault_in.result same S d v w) c.loop-given.invariant.due (fails_of c.in-Err.stop c.fault_in.result same S _ v w c.fault_in.ensures (c.in-Err.ensures.kept S stood)))
    (λ e P x. subst (λ (b : Account g.row.D.Denot). P (view b.disk)) (sym e) x))

pub returns-in-Err-clause-written : goal.returns-in-Err-clause-written
returns-in-Err-clause-written g c = written_on _ _ _ c.loop-given.invariant.written c.answer.ensures.written

pub loop-given-preserved : goal.loop-given-preserved
loop-given-preserved g c =
    let view = g.D.Disk.view in
    let v = view c.loop-given.machine.bank.disk in
    let w = view c.answer.new.machine.bank.disk in
    let more = 10000000 - (c.loop-given.given + 1) in
    record {
      run = λ brands R first held bytes input f. follows_turn c.args.telling brands R (λ S. StandsFor S c.loop-given.machine) (λ S. StandsFor S c.answer.new.machine) (Left brands R (view first) v) (Left brands R (view first) w) v w _ _ c.args.number _ more c.args.opened c.in-Ok.answer false _ _ _ _ _
          (follows_some c.args.telling (10000000 - c.loop-given.given) (suc more) c.args.opened brands R _ _ _ _ _ _ _ _ _ (omega (arith, c.loop-given-test.true)) (c.loop-given.invariant.run brands R first held bytes input f))
          (λ S stood. subst (λ (d : Due). IsAnswered (WithTurns c.args.telling) S d c.in-Ok.answer (λ T. StandsFor T c.answer.new.machine) v w (after_known (g.K.Sink.holds c.loop-given.out) c.loop-given.waiting.items) (after_known (g.K.Sink.holds c.answer.new.out) c.answer.new.waiting.items)) c.loop-given.invariant.due (c.in-Ok.ensures.answered S stood)) c.refused_by-refused.ensures (sym c.if-is_last.false ∙ c.is_last.ensures)
          (λ S entry h reached goes k is. keeps_step brands R h S entry reached (view first) v w goes (k is));
      due = c.loop-given.invariant.due;
      asks = c.answer.ensures.asks;
      ready = c.in-Ok.ensures.ready;
      written = written_on _ _ _ c.loop-given.invariant.written c.answer.ensures.written;
      write = omega (arith, c.loop-given.invariant.write, c.answer.ensures.later);
      passes = passes_on _ _ _ c.loop-given.invariant.passes c.answer.ensures.passes;
    }

pub returns-clause-went : goal.returns-clause-went
returns-clause-went g c = λ brands R first held bytes input f.
    follows_all c.args.telling brands R _ _ _ c.args.number _ c.args.opened _ _ _ _
    (follows_some c.args.telling (10000000 - c.loop-given.given) zero c.args.opened brands R _ _ _ _ _ _ _ _ _ (omega (arith, c.loop-given-test.false, c.loop-given.auto.given-end)) (c.loop-given.invariant.run brands R first held bytes input f))
