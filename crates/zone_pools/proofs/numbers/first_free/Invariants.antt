use Rattle.std.proofs.Common.{◌≡◌, ◌+◌, ◌-◌}
use Rattle.std.specs.Prelude.{is_some, nat_eq}
use Rattle.zone_pools.specs.Owners.{owner}
use Rattle.zone_pools.specs.Pools.{first_free}
use Rattle.zone_pools.proofs.numbers.first_free.Given as goal

abbrev pub invariant-loop-step : goal.invariant-loop-step
invariant-loop-step l = first_free (λ n. is_some (owner nat_eq l.used n)) (l.from + l.step) (l.count - l.step) ≡ first_free (λ n. is_some (owner nat_eq l.used n)) l.from l.count
