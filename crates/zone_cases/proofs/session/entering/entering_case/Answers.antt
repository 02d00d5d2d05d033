use Rattle.std.proofs.Common.{◌∙◌, ◌∷◌, [], ap, false, sym}
use Rattle.kernel_objects.specs.Kernel.{Kernel, entered}
use Rattle.kernel_objects.specs.Processes.{process_of}
use Rattle.zone_pools.specs.Asked.{A_pid}
use Rattle.zone_pools.specs.Decisions.{Ask}
use Rattle.zoneadmd_steps.specs.Arrivals.{A_process}
use Rattle.zone_cases.specs.Code.Errands.{errand_effect}
use Rattle.zone_cases.specs.Session.Logins.{call_word, errand, goes_after}
use Rattle.zone_cases.specs.State.Decisions.{refused}
use Rattle.zone_cases.specs.declared.cases.Entering.{Entering}
use Rattle.zone_cases.specs.declared.replies.Refusal.TheVariants.{Denied}
use Rattle.zone_cases.proofs.session.entering.entering_case.Goals as goal

pub returns-clause-decides : goal.returns-clause-decides
returns-clause-decides c = λ d v shows.
    let call = c.args.call.now in
    let name = sym (c.in_ok-name.ensures ∙ c.call_word.ensures.word) in
    let process = (λ i. entered (shows.kernel i) (name i) false 0) ∙ sym (c.entering-running.ensures 0) in
    (λ i. Ask (A_process (process i)) (A_pid ∷ []) (λ pool. refused (Denied pool))
    (λ n. goes_after n ((ap (λ (k : Kernel). errand v (entered k (call_word call) false n) call) shows.kernel ∙ c.in_ok-errand.ensures.decides d v n shows) i)))
    ∙ ap (λ (e : Entering). Ask (A_process (process_of (0, e.running))) (A_pid ∷ []) (λ pool. refused (Denied pool)) (λ n. goes_after n (errand_effect n e.errand))) (sym c.in_ok-new.ensures.ok)
