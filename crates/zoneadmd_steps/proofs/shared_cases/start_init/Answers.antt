use Rattle.std.proofs.Common.{◌∙◌, [], ◌∷◌, Some, ap, codes, drop, sym, true}
use Rattle.kernel_objects.specs.Kernel.{entered, with_bootargs}
use Rattle.kernel_objects.specs.Processes.{process_of}
use Rattle.zone_pools.specs.Asked.{A_pid}
use Rattle.zoneadmd_steps.specs.Arrivals.{A_process}
use Rattle.zoneadmd_steps.specs.Code.Desks.{as_job}
use Rattle.zoneadmd_steps.specs.Objects.{Ids_change}
use Rattle.zoneadmd_steps.specs.Turns.{asking}
use Rattle.zoneadmd_steps.specs.declared.requests.Step.TheVariants.{Init}
use Rattle.zoneadmd_steps.proofs.shared_cases.start_init.Goals as goal

pub returns-clause-decides : goal.returns-clause-decides
returns-clause-decides c = λ o d j k.
    ap (λ q. asking d (as_job j) (drop c.args.next j.steps) (A_process q) (A_pid ∷ []) (Ids_change (with_bootargs c.args.args) ∷ []) (λ n. Init (Some n)))
    (ap (λ k. entered k (codes "init") true 0) k ∙ (ap (λ name. entered c.args.kernel.now name true 0) (sym c.in_ok-name.ensures)
    ∙ (sym (c.entering.ensures 0) ∙ ap (λ r. process_of (0, r)) (sym c.in_ok-running.ensures.ok))))
