-- What the code decides by what a zone has in the kernel, as the definitions have it.
use Rattle.std.proofs.Common.{◌≡◌, ◌∷◌, ◌∙◌, [], ℕ, Bool, Box, Global, List, Option, Some, Ok, IfSome, ap, subst, sym}
use Rattle.kernel_objects.specs.Kernel.{fork_set, forked}
use Rattle.kernel_objects.specs.Processes.{Process, process_of}
use Rattle.kernel_objects.specs.declared.objects.Running.{Running}
use Rattle.zone_pools.specs.Asked.{A_pid}
use Rattle.zone_pools.specs.Decisions.{Ask}
use Rattle.zoneadmd_steps.specs.Arrivals.{A_process}
use Rattle.zone_cases.specs.Calls.{forks}
use Rattle.zone_cases.specs.Code.Cases.{decision_of}
use Rattle.zone_cases.specs.State.Decisions.{refused, tells}
use Rattle.zone_cases.specs.declared.cases.Case.TheVariants.{Fork}
use Rattle.zone_cases.specs.declared.cases.Manner.TheVariants.{Plain}
use Rattle.zoneadmd_steps.specs.declared.desks.Desk.{Desk}
use Rattle.zone_cases.specs.declared.replies.Body.TheVariants.{Child}
use Rattle.zone_cases.specs.declared.replies.Refusal.TheVariants.{Denied}

-- a process that may fork
pub may_fork_case : (d : Desk) (p : Process) (name : List ℕ) (o : Option Process) (full : Bool) (r : Running) (b : Box Running Global) → o ≡ Some p → fork_set o full ≡ Ok r.privileges
    → ((n : ℕ) → IfSome o (λ p. process_of (n, r) ≡ forked p name n)) → b.value ≡ r → forks p name (fork_set (Some p) full) ≡ decision_of d (Fork b Plain)
may_fork_case d p name o full r b there said made value =
    let set : fork_set (Some p) full ≡ Ok r.privileges = subst (λ o. fork_set o full ≡ Ok r.privileges) there said in
    let child : process_of (0, r) ≡ forked p name 0 = subst (λ o. IfSome o (λ p. process_of (0, r) ≡ forked p name 0)) there (made 0) in
    ap (forks p name) set ∙ ap (λ q. Ask (A_process q) (A_pid ∷ []) (λ pool. refused (Denied pool)) (λ n. tells (Child n))) (sym child ∙ ap (λ r. process_of (0, r)) (sym value))
