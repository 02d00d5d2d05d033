use Rattle.std.proofs.Common.{◌≡◌, ◌≤◌, ℕ, None, nat_eq, take}
use Rattle.std.specs.Prelude.{if◌then◌else◌}
use Rattle.zone_pools.specs.Owners.{owner}
use Rattle.zone_cases.proofs.Doings_laws.{ends_in}
use Rattle.zone_cases.proofs.session.doings.end_doings.Given as goal

abbrev pub invariant-loop-at : goal.invariant-loop-at
invariant-loop-at l =
    ((k : ℕ) → owner nat_eq l.sessions k ≡ (if ends_in l.ended k (take l.at l.doings.entries) then None else owner nat_eq l.initial.sessions k)) × (l.initial.sessions.room ≤ l.sessions.room)
