use Rattle.std.proofs.Common.{◌≡◌, ◌∷◌, [], ◌++◌, ◌∙◌, append-nil, ap, arith, length, rules, subst, sym}
use Rattle.std.specs.Prelude.{IsErrOf}
use Rattle.std.specs.Vec.Iter.{into_iter_items}
use Rattle.zone_machine.specs.declared.faults.StepFault.TheVariants.{DiskFault}
use Rattle.zone_views.proofs.Running_laws.{HasRun-end, HasRunSome-now, IsRunning, IsRunning-next, all-next, nothing-left, passes-on, rose-after}
use Rattle.zone_views.proofs.purging.run.Goals as goal

pub loop-event-preserved : goal.loop-event-preserved
loop-event-preserved g c =
    let at = c.loop-event in
    let e = c.in-Some.event in
    let view = g.D.Disk.view in
    let steps = c.in-Some.ensures.steps in
    let long = at.invariant.long in
    let gone = steps.1 in
    let short = ap length steps.0 in
    record {
      all = all-next at.yielded _ _ _ e at.invariant.all steps.0;
      long = omega (arith, long, gone, short);
      runs = λ keeps S h. subst (λ l. IsRunning S (at.yielded ++ e ∷ []) l c.step.new.self) (sym c.in_ok-push.ensures.items)
          (IsRunning-next view S at.machine c.step.new.self at.entries.items c.in_ok-entry.entry (at.invariant.passes.model.0 keeps) at.yielded e c.in_ok-entry.ensures.ok c.in_ok-entry.ensures.bodies (at.invariant.runs keeps S h));
      asks = c.in_ok-entry.ensures.asks;
      ready = c.in_ok-entry.ensures.ready;
      passes = passes-on _ _ _ at.invariant.passes c.in_ok-entry.ensures.passes;
    }

pub returns-in_err-push-clause-memory : goal.returns-in_err-push-clause-memory
returns-in_err-push-clause-memory g c = λ keeps is S h.
    let at = c.loop-event in
    let e = c.in-Some.event in
    HasRunSome-now S c.args.events.items (at.yielded ++ e ∷ []) (into_iter_items c.next.new.self) _ c.step.new.self
    (sym (all-next at.yielded _ _ _ e at.invariant.all c.in-Some.ensures.steps.0 ∙ c.into_iter-event-iterator.ensures.into_iter_gives.0))
    (IsRunning-next g.D.Disk.view S at.machine c.step.new.self at.entries.items c.in_ok-entry.entry (at.invariant.passes.model.0 keeps) at.yielded e c.in_ok-entry.ensures.ok c.in_ok-entry.ensures.bodies (at.invariant.runs keeps S h))

pub returns-in_err-entry-clause-disk : goal.returns-in_err-entry-clause-disk
returns-in_err-entry-clause-disk g c = λ is.
    let bad : IsErrOf c.step.result DiskFault = search rules in
    rose-after c.step.result _ _ _ _ _ _ _ c.loop-event.invariant.passes bad c.step.ensures.left

pub returns-clause-ok : goal.returns-clause-ok
returns-clause-ok g c = λ keeps S h.
    let at = c.loop-event in
    let empty : into_iter_items at.event-iterator ≡ [] = nothing-left _ _ at.invariant.long c.in-None.ensures.steps.0 in
    let all : at.yielded ≡ c.args.events.items = sym (append-nil at.yielded) ∙ (ap (λ l. at.yielded ++ l) (sym empty) ∙ (at.invariant.all ∙ c.into_iter-event-iterator.ensures.into_iter_gives.0)) in
    HasRun-end S c.args.events.items at.entries.items at.machine (subst (λ l. IsRunning S l at.entries.items at.machine) all (at.invariant.runs keeps S h))
