use Rattle.std.proofs.Common.{◌<◌, ◌∙◌, arith, length, refl, sym}
use Rattle.zone_machine.specs.Code.Openings.{StandsFor}
use Rattle.zone_machine.specs.Machine.Histories.{after}
use Rattle.session_records.specs.Folds.{folded}
use Rattle.session_records.specs.Scripts.{noted}
use Rattle.session_runs.proofs.Adding.{on-on, on-up-to}
use Rattle.session_runs.proofs.Far_laws.{waits-at}
use Rattle.session_runs.proofs.Machine_steps.{err-all, err-from, on-none, passes-none, passes-on, up-to-none}
use Rattle.session_runs.specs.Far.{wait_of}
use Rattle.session_runs.proofs.run.until_answered.Goals as goal

pub loop-init : goal.loop-init
loop-init g c = record {
  next = tt;
  finite = tt;
  run = λ S p scripts m. on-none g.D.Disk.view S p scripts c.args.far.now.items c.args.entries.now.items c.args.machine.now m (g.met.D.Disk.sound c.args.machine.now.bank.disk) c.requires.ready;
  len = refl;
  done = λ f. refl;
  asks = c.requires.asks;
  ready = c.requires.ready;
  passes = passes-none (g.D.Disk.view c.args.machine.now.bank.disk);
}

pub returns-in_err-zone-in-Some-awaits-clause-halts : goal.returns-in_err-zone-in-Some-awaits-clause-halts
returns-in_err-zone-in-Some-awaits-clause-halts g c = λ S p scripts m.
    let view = g.D.Disk.view in
    let l = c.loop in
    err-all c.from_residual.result _ (λ fault. on-up-to S p scripts l.far.items l.far.items c.args.entries.now.items l.entries.items l.entries.items (λ T. StandsFor T l.machine) (λ T. StandsFor T l.machine) (view c.args.machine.now.bank.disk) (view l.machine.bank.disk) (view l.machine.bank.disk)
    (l.invariant.run S p scripts m) fault (λ mid. up-to-none view _ _ l.entries.items l.machine fault mid.stood (g.met.D.Disk.sound l.machine.bank.disk) l.invariant.ready))

pub loop-preserved : goal.loop-preserved
loop-preserved g c =
    let view = g.D.Disk.view in
    let l = c.loop in
    let taken = c.take_turn.new in
    let near : c.args.at < length l.far.items = omega (arith, c.requires.at, l.invariant.len) in
    record {
      next = tt;
      finite = tt;
      run = λ S p scripts m.
          let a = l.invariant.run S p scripts m in
          on-on S p scripts taken.far.items l.far.items c.args.entries.now.items l.entries.items taken.entries.items (λ T. StandsFor T l.machine) (λ T. StandsFor T taken.machine) (view c.args.machine.now.bank.disk) (view l.machine.bank.disk) (view taken.machine.bank.disk) a
          (λ mid.
          let waits = waits-at scripts l.far.items (folded noted p a.more) c.args.at c.index.result.now c.in-Some-awaits.awaited mid.far_by near (sym c.index.ensures) c.in-Some-awaits.is in
          c.in_ok-take_turn.ensures.adds (after S a.more) (folded noted p a.more) scripts waits.0 (wait_of c.in-Some-awaits.awaited) mid waits.1 (sym c.in_ok-zone-in-Some-awaits.ensures));
      len = c.take_turn.ensures.len ∙ l.invariant.len;
      done = λ f. c.take_turn.ensures.done c.args.at f near ∙ l.invariant.done f;
      asks = c.take_turn.ensures.asks;
      ready = c.in_ok-take_turn.ensures.ready;
      passes = passes-on _ _ _ l.invariant.passes c.take_turn.ensures.passes;
    }

pub returns-in_err-take_turn-clause-halts : goal.returns-in_err-take_turn-clause-halts
returns-in_err-take_turn-clause-halts g c = λ S p scripts m.
    let view = g.D.Disk.view in
    let l = c.loop in
    let taken = c.take_turn.new in
    let a = l.invariant.run S p scripts m in
    err-from c.from_residual-in_err-take_turn.result _ c.in_err-take_turn.field-0.0 c.from_residual-in_err-take_turn.ensures.1
    (on-up-to S p scripts l.far.items l.far.items c.args.entries.now.items l.entries.items taken.entries.items (λ T. StandsFor T l.machine) (λ T. StandsFor T taken.machine) (view c.args.machine.now.bank.disk) (view l.machine.bank.disk) (view taken.machine.bank.disk) a
    c.in_err-take_turn.field-0.0 (λ mid. c.in_err-take_turn.ensures.halts (after S a.more) (folded noted p a.more) scripts mid))
