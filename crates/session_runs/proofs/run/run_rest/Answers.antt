use Rattle.std.proofs.Common.{◌∙◌, arith, refl, sym}
use Rattle.zone_machine.specs.Code.Openings.{StandsFor}
use Rattle.zone_machine.specs.Machine.Histories.{after}
use Rattle.session_records.specs.Folds.{folded}
use Rattle.session_records.specs.Scripts.{begun, noted}
use Rattle.session_runs.proofs.Adding.{adds-of, on-up-to}
use Rattle.session_runs.proofs.Far_laws.{same-at}
use Rattle.session_runs.proofs.Machine_steps.{err-from, on-none, passes-none, passes-on}
use Rattle.session_runs.proofs.Whole_runs.{cut-of, far-done, midway, over-of, runs-more}
use Rattle.session_runs.specs.Far.{scripts_of}
use Rattle.session_runs.specs.Midway.{GoesBefore, GoesOn}
use Rattle.session_runs.proofs.run.run_rest.Goals as goal

pub loop-at-init : goal.loop-at-init
loop-at-init g c = record {
  run = λ S p m.
      let v = g.D.Disk.view c.args.machine.now.bank.disk in
      adds-of S p c.args.entries.now.items c.args.entries.now.items _ (GoesBefore 0 S p c.args.scripts.now c.args.far.items (λ T. StandsFor T c.args.machine.now) v v)
      (on-none g.D.Disk.view S p c.args.scripts.now c.args.far.items c.args.entries.now.items c.args.machine.now m (g.met.D.Disk.sound c.args.machine.now.bank.disk) c.requires.ready)
      (λ h goes. record { goes = goes; done = λ i s before within. absurd (omega (arith, before)) });
  len = refl;
  asks = c.requires.asks;
  ready = c.requires.ready;
  passes = passes-none (g.D.Disk.view c.args.machine.now.bank.disk);
}

pub returns-in_err-run_script-clause-part : goal.returns-in_err-run_script-clause-part
returns-in_err-run_script-clause-part g c = λ S m.
    let view = g.D.Disk.view in
    let l = c.loop-at in
    let ran = c.run_script.new in
    let scripts = c.args.scripts.now in
    let old = c.args.entries.now.items in
    let p = folded noted (begun (scripts_of scripts)) old in
    let T0 = after S old in
    let u = view c.args.machine.now.bank.disk in
    let v = view l.machine.bank.disk in
    let r = l.invariant.run T0 p (midway S scripts c.args.far.items old (λ T. StandsFor T c.args.machine.now) m) in
    let a = adds-of T0 p old l.entries.items _ (GoesOn T0 p scripts l.far.items (λ T. StandsFor T l.machine) u v) r (λ h goes. goes.goes) in
    err-from c.from_residual.result _ c.in_err-run_script.field-0.0 c.from_residual.ensures.1
    (cut-of S scripts c.args.far.items old (λ T. StandsFor T c.args.machine.now) m c.in_err-run_script.field-0.0 ran.entries.items (λ T. StandsFor T ran.machine) u (view ran.machine.bank.disk)
    (on-up-to T0 p scripts l.far.items l.far.items old l.entries.items ran.entries.items (λ T. StandsFor T l.machine) (λ T. StandsFor T ran.machine) u v (view ran.machine.bank.disk) a c.in_err-run_script.field-0.0
    (λ mid. c.in_err-run_script.ensures.halts (after T0 a.more) (folded noted p a.more) scripts mid c.requires.differ (λ d. same-at scripts l.at d c.index-scripts-at.result c.loop-at-test.true ∙ sym c.index-scripts-at.is))))

pub loop-at-preserved : goal.loop-at-preserved
loop-at-preserved g c =
    let view = g.D.Disk.view in
    let l = c.loop-at in
    let ran = c.run_script.new in
    let scripts = c.args.scripts.now in
    let old = c.args.entries.now.items in
    let script = c.index-scripts-at.result in
    record {
      run = λ S p m.
          let r = l.invariant.run S p m in
          runs-more l.at S p scripts ran.far.items l.far.items old l.entries.items ran.entries.items (λ T. StandsFor T l.machine) (λ T. StandsFor T ran.machine) (view c.args.machine.now.bank.disk) (view l.machine.bank.disk) (view ran.machine.bank.disk) r
          (c.in_ok-run_script.ensures.adds (after S r.more) (folded noted p r.more) scripts r.ended.goes.midway c.requires.differ (λ d. same-at scripts l.at d script c.loop-at-test.true ∙ sym c.index-scripts-at.is))
          (λ q is s. far-done scripts ran.far.items q l.at script is c.loop-at-test.true (λ d. same-at scripts l.at d script c.loop-at-test.true ∙ sym c.index-scripts-at.is) c.in_ok-run_script.ensures.done s);
      len = c.run_script.ensures.len ∙ l.invariant.len;
      asks = c.run_script.ensures.asks;
      ready = c.in_ok-run_script.ensures.ready;
      passes = passes-on _ _ _ l.invariant.passes c.run_script.ensures.passes;
    }

pub returns-clause-whole : goal.returns-clause-whole
returns-clause-whole g c = λ S m.
    let view = g.D.Disk.view in
    let l = c.loop-at in
    let scripts = c.args.scripts.now in
    let old = c.args.entries.now.items in
    over-of S scripts c.args.far.items old (λ T. StandsFor T c.args.machine.now) m l.at l.entries.items l.far.items (λ T. StandsFor T l.machine) (view c.args.machine.now.bank.disk) (view l.machine.bank.disk) c.loop-at-test.false
    (l.invariant.run (after S old) (folded noted (begun (scripts_of scripts)) old) (midway S scripts c.args.far.items old (λ T. StandsFor T c.args.machine.now) m))
