use Rattle.std.proofs.Common.{◌∙◌, None, ap}
use Rattle.zone_machine.specs.Code.Openings.{StandsFor}
use Rattle.zone_machine.specs.Machine.Histories.{after}
use Rattle.session_records.specs.Folds.{folded}
use Rattle.session_records.specs.Scripts.{noted}
use Rattle.session_runs.proofs.Adding.{on-on, on-up-to}
use Rattle.session_runs.proofs.Far_laws.{answered-at}
use Rattle.session_runs.proofs.Machine_steps.{err-from, passes-on}
use Rattle.session_runs.proofs.run.run_script.Goals as goal

pub returns-in_err-until_answered-clause-halts : goal.returns-in_err-until_answered-clause-halts
returns-in_err-until_answered-clause-halts g c = λ S p scripts m differ here.
    err-from c.from_residual.result _ c.in_err-until_answered.field-0.0 c.from_residual.ensures.1 (c.in_err-until_answered.ensures.halts S p scripts m)

pub loop-number-init : goal.loop-number-init
loop-number-init g c = record {
  run = λ S p scripts m differ here. c.in_ok-until_answered.ensures.adds S p scripts m;
  here = answered-at c.args.far.now.items c.until_answered.new.far.items c.args.at c.index.result.now c.requires.at c.in_ok-until_answered.ensures.answered c.index.ensures;
  len = c.until_answered.ensures.len;
  asks = c.until_answered.ensures.asks;
  ready = c.in_ok-until_answered.ensures.ready;
  passes = c.until_answered.ensures.passes;
}

pub returns-in_err-type_line-clause-halts : goal.returns-in_err-type_line-clause-halts
returns-in_err-type_line-clause-halts g c = λ S p scripts m differ here.
    let view = g.D.Disk.view in
    let l = c.loop-number in
    let typed = c.type_line.new in
    let a = l.invariant.run S p scripts m differ here in
    err-from c.from_residual-in_err-type_line.result _ c.in_err-type_line.field-0.0 c.from_residual-in_err-type_line.ensures.1
    (on-up-to S p scripts l.far.items l.far.items c.args.entries.now.items l.entries.items typed.entries.items (λ T. StandsFor T l.machine) (λ T. StandsFor T typed.machine) (view c.args.machine.now.bank.disk) (view l.machine.bank.disk) (view typed.machine.bank.disk) a
    c.in_err-type_line.field-0.0 (λ mid. c.in_err-type_line.ensures.halts (after S a.more) (folded noted p a.more) scripts mid differ here l.invariant.here))

pub returns-in_err-until_answered-2-clause-halts : goal.returns-in_err-until_answered-2-clause-halts
returns-in_err-until_answered-2-clause-halts g c = λ S p scripts m differ here.
    let view = g.D.Disk.view in
    let l = c.loop-number in
    let typed = c.type_line.new in
    let taken = c.until_answered-in-loop-number.new in
    let a = l.invariant.run S p scripts m differ here in
    let b = on-on S p scripts typed.far.items l.far.items c.args.entries.now.items l.entries.items typed.entries.items (λ T. StandsFor T l.machine) (λ T. StandsFor T typed.machine) (view c.args.machine.now.bank.disk) (view l.machine.bank.disk) (view typed.machine.bank.disk) a
    (λ mid. c.in_ok-type_line.ensures.adds (after S a.more) (folded noted p a.more) scripts mid differ here l.invariant.here) in
    err-from c.from_residual-in_err-until_answered-2.result _ c.in_err-until_answered-2.field-0.0 c.from_residual-in_err-until_answered-2.ensures.1
    (on-up-to S p scripts typed.far.items typed.far.items c.args.entries.now.items typed.entries.items taken.entries.items (λ T. StandsFor T typed.machine) (λ T. StandsFor T taken.machine) (view c.args.machine.now.bank.disk) (view typed.machine.bank.disk) (view taken.machine.bank.disk) b
    c.in_err-until_answered-2.field-0.0 (λ mid. c.in_err-until_answered-2.ensures.halts (after S b.more) (folded noted p b.more) scripts mid))

pub loop-number-preserved : goal.loop-number-preserved
loop-number-preserved g c =
    let view = g.D.Disk.view in
    let l = c.loop-number in
    let typed = c.type_line.new in
    let taken = c.until_answered-in-loop-number.new in
    record {
      run = λ S p scripts m differ here.
          let a = l.invariant.run S p scripts m differ here in
          let b = on-on S p scripts typed.far.items l.far.items c.args.entries.now.items l.entries.items typed.entries.items (λ T. StandsFor T l.machine) (λ T. StandsFor T typed.machine) (view c.args.machine.now.bank.disk) (view l.machine.bank.disk) (view typed.machine.bank.disk) a
          (λ mid. c.in_ok-type_line.ensures.adds (after S a.more) (folded noted p a.more) scripts mid differ here l.invariant.here) in
          on-on S p scripts taken.far.items typed.far.items c.args.entries.now.items typed.entries.items taken.entries.items (λ T. StandsFor T typed.machine) (λ T. StandsFor T taken.machine) (view c.args.machine.now.bank.disk) (view typed.machine.bank.disk) (view taken.machine.bank.disk) b
          (λ mid. c.in_ok-until_answered-2.ensures.adds (after S b.more) (folded noted p b.more) scripts mid);
      here = λ f. c.in_ok-until_answered-2.ensures.answered f ∙ ap (λ n. record { done = n; awaits = None }) (c.in_ok-type_line.ensures.done f);
      len = c.until_answered-in-loop-number.ensures.len ∙ (c.type_line.ensures.len ∙ l.invariant.len);
      asks = c.until_answered-in-loop-number.ensures.asks;
      ready = c.in_ok-until_answered-2.ensures.ready;
      passes = passes-on _ _ _ l.invariant.passes (passes-on _ _ _ c.type_line.ensures.passes c.until_answered-in-loop-number.ensures.passes);
    }
