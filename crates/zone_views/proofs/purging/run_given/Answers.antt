use Rattle.std.proofs.Common.{◌≡◌, ◌∷◌, [], ◌++◌, ◌∙◌, true, append-nil, ap, arith, length, rules, subst, sym}
use Rattle.std.specs.Prelude.{IfErr, IsErrOf}
use Rattle.std.specs.Vec.Iter.{into_iter_items}
use Rattle.zone_machine.proofs.Results.{if_err}
use Rattle.zone_machine.specs.Code.Restarts.{BankLeftAny}
use Rattle.zone_machine.specs.Machine.Histories.{after}
use Rattle.zone_machine.specs.declared.faults.StepFault.TheVariants.{BadGrant, DiskFault}
use Rattle.zone_views.proofs.Running_laws.{HasRunGiven-end, HasRunSomeGiven-now, HasRunSomeGiven-still, IsRunningGiven, IsRunningGiven-step, all-next, misfit-now, nothing-left, only-three, passes-on, ready-after, rose-after}
use Rattle.zone_views.proofs.purging.run_given.Goals as goal

pub loop-entry-preserved : goal.loop-entry-preserved
loop-entry-preserved g c =
    let at = c.loop-entry in
    let e = c.in-Some.entry in
    let steps = c.in-Some.ensures.steps in
    let long = at.invariant.long in
    let gone = steps.1 in
    let short = ap length steps.0 in
    record {
      all = all-next at.yielded _ _ _ e at.invariant.all steps.0;
      long = omega (arith, long, gone, short);
      runs = λ keeps S h. subst (λ l. IsRunningGiven S (at.yielded ++ e ∷ []) l c.step_given.new.self) (sym c.in_ok-push.ensures.items)
          (IsRunningGiven-step g.D.Disk.view S at.machine c.step_given.new.self at.answered.items c.in_ok-answer.answer (at.invariant.passes.model.0 keeps) at.yielded e _ _ c.into_asked-event.ensures.event c.into_asked-event.ensures.grant
          c.in_ok-answer.ensures.ok c.in_ok-answer.ensures.bodies (at.invariant.runs keeps S h));
      asks = c.in_ok-answer.ensures.asks;
      ready = c.in_ok-answer.ensures.ready;
      passes = passes-on _ _ _ at.invariant.passes c.in_ok-answer.ensures.passes;
    }

pub returns-in_err-push-clause-memory : goal.returns-in_err-push-clause-memory
returns-in_err-push-clause-memory g c = λ keeps is S h.
    let at = c.loop-entry in
    let e = c.in-Some.entry in
    HasRunSomeGiven-now S c.args.entries.items (at.yielded ++ e ∷ []) (into_iter_items c.next.new.self) _ c.step_given.new.self
    (sym (all-next at.yielded _ _ _ e at.invariant.all c.in-Some.ensures.steps.0 ∙ c.into_iter-entry-iterator.ensures.into_iter_gives.0))
    (IsRunningGiven-step g.D.Disk.view S at.machine c.step_given.new.self at.answered.items c.in_ok-answer.answer (at.invariant.passes.model.0 keeps) at.yielded e _ _ c.into_asked-event.ensures.event c.into_asked-event.ensures.grant
    c.in_ok-answer.ensures.ok c.in_ok-answer.ensures.bodies (at.invariant.runs keeps S h))

pub returns-in_err-answer-clause-misfit : goal.returns-in_err-answer-clause-misfit
returns-in_err-answer-clause-misfit g c = λ keeps is S h.
    let at = c.loop-entry in
    let e = c.in-Some.entry in
    let so = at.invariant.runs keeps S h in
    let bad : IsErrOf c.step_given.result BadGrant = search rules in
    misfit-now S c.args.entries.items at.yielded (into_iter_items c.next.new.self) at.answered.items e _ _ at.machine
    (sym c.into_iter-entry-iterator.ensures.into_iter_gives.0 ∙ (sym at.invariant.all ∙ ap (λ l. at.yielded ++ l) c.in-Some.ensures.steps.0))
    c.into_asked-event.ensures.event c.into_asked-event.ensures.grant so ((c.step_given.ensures.misfit bad).0 (after S at.answered.items) so.stands.parts)

pub returns-in_err-answer-clause-stays : goal.returns-in_err-answer-clause-stays
returns-in_err-answer-clause-stays g c = λ keeps is S h.
    let at = c.loop-entry in
    let bad : IsErrOf c.step_given.result BadGrant = search rules in
    HasRunSomeGiven-still S c.args.entries.items at.yielded (c.in-Some.entry ∷ into_iter_items c.next.new.self) at.answered.items at.machine c.step_given.new.self.parts
    (sym c.into_iter-entry-iterator.ensures.into_iter_gives.0 ∙ (sym at.invariant.all ∙ ap (λ l. at.yielded ++ l) c.in-Some.ensures.steps.0))
    (c.step_given.ensures.misfit bad).1 (at.invariant.runs keeps S h)

pub returns-in_err-answer-clause-goes_on : goal.returns-in_err-answer-clause-goes_on
returns-in_err-answer-clause-goes_on g c = λ is.
    let bad : IsErrOf c.step_given.result BadGrant = search rules in
    ready-after c.step_given.result _ _ _ _ _ _ bad c.step_given.ensures.left

pub returns-in_err-answer-clause-err : goal.returns-in_err-answer-clause-err
returns-in_err-answer-clause-err g c = λ keeps.
    let m = c.loop-entry.machine in
    let n = c.step_given.new.self in
    let view = g.D.Disk.view in
    let event = c.into_asked-event.result.0 in
    let left : IfErr c.from_residual.result (λ fault. BankLeftAny true event fault m.bank n.bank (view m.bank.disk) (view n.bank.disk) n.parts.shared) = search rules in
    if_err c.from_residual.result _ _ (λ fault. only-three fault event m.bank n.bank (view m.bank.disk) (view n.bank.disk) n.parts.shared (c.loop-entry.invariant.passes.model.0 keeps)) left

pub returns-in_err-answer-clause-disk : goal.returns-in_err-answer-clause-disk
returns-in_err-answer-clause-disk g c = λ is.
    let bad : IsErrOf c.step_given.result DiskFault = search rules in
    rose-after c.step_given.result _ _ _ _ _ _ _ c.loop-entry.invariant.passes bad c.step_given.ensures.left

pub returns-clause-ok : goal.returns-clause-ok
returns-clause-ok g c = λ keeps S h.
    let at = c.loop-entry in
    let empty : into_iter_items at.entry-iterator ≡ [] = nothing-left _ _ at.invariant.long c.in-None.ensures.steps.0 in
    let all : at.yielded ≡ c.args.entries.items = sym (append-nil at.yielded) ∙ (ap (λ l. at.yielded ++ l) (sym empty) ∙ (at.invariant.all ∙ c.into_iter-entry-iterator.ensures.into_iter_gives.0)) in
    HasRunGiven-end S c.args.entries.items at.answered.items at.machine (subst (λ l. IsRunningGiven S l at.answered.items at.machine) all (at.invariant.runs keeps S h))
