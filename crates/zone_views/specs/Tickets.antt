-- Which tickets a zone's daemon still has to answer (zoneadmd(8)).
use Rattle.std.specs.Prelude.{ℕ, Bool, false, ◌||◌, Option, Some, None, nat_eq}
use Rattle.std.specs.List.{list_any}
use Rattle.zoneadmd_steps.specs.Desks.{Desk, Job}

-- whether a ticket is that of a request under way
abbrev pub is_under_way : ℕ → Option Job → Bool
is_under_way t None = false
is_under_way t (Some j) = nat_eq t j.ticket

-- it is open while its request is under way or waits on the desk
abbrev pub is_open : ℕ → Desk → Bool
is_open t d = is_under_way t d.job || list_any (λ r. nat_eq t r.0) d.waiting
