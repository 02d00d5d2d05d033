-- The numbers that stand in a state, those of all zones, and the number of a grant.
use Rattle.std.specs.Prelude.{ℕ, List, Bool, true, map, nat_eq, nat_le}
use Rattle.std.specs.List.{IsDistinct}
use Rattle.zone_pools.specs.declared.grant.Grant.{Grant}
use Rattle.zone_pools.specs.declared.grant.Grant.TheVariants.{Number}
use Rattle.zone_cases.specs.State.{State}

abbrev pub pids : State → List ℕ
pids S = map (λ o. o.it.pid) S.processes

abbrev pub zids : State → List ℕ
zids S = map (λ o. o.it.zid) S.ids

-- no number stands twice
abbrev pub AllDiffer : List ℕ → Type 0
AllDiffer ns = IsDistinct nat_eq ns

-- the number of a grant, if it has one, is 4,294,967,295 at most, as in the text of a grant
abbrev pub is_small : Grant → Bool
is_small (Number n) = nat_le n 4294967295
is_small grant = true
