use Rattle.std.proofs.Common.{◌≡◌, ℕ, None, nat_eq}
use Rattle.std.specs.Prelude.{if◌then◌else◌}
use Rattle.std.specs.List.{list_any}
use Rattle.zone_pools.specs.Owners.{owner}
use Rattle.kernel_objects.specs.Processes.{has_pid}
use Rattle.kernel_objects.proofs.processes.Processes.give_back.Given as goal

-- with those that are left given back too, all are
abbrev pub invariant-loop-pid : goal.invariant-loop-pid
invariant-loop-pid l = (n : ℕ) → (if list_any (λ pid. nat_eq pid n) l.pid-iterator then None else owner nat_eq l.pids n) ≡ (if list_any (has_pid n) l.self then None else owner nat_eq l.initial.pids n)
