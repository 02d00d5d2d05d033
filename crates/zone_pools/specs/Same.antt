-- Whether two pools or grants are one, as a test that computes.
use Rattle.std.specs.Prelude.{Bool, true, false, ◌==◌}
use Rattle.zone_pools.specs.contracts.grant.Pool.{the_type as pool_type}
use Rattle.zone_pools.specs.declared.grant.Grant.{Grant}
use Rattle.zone_pools.specs.declared.grant.Grant.TheVariants.{Nothing, Number, Yes, Denied}
use Rattle.zone_pools.specs.declared.grant.Pool.{Pool}
use denote.Enum.Bare.{sameb}

-- by their tags, since no pool has a field
abbrev pub same_pool : Pool → Pool → Bool
same_pool a b = sameb pool_type a b

abbrev pub same_grant : Grant → Grant → Bool
same_grant Nothing Nothing = true
same_grant (Number m) (Number n) = m == n
same_grant Yes Yes = true
same_grant (Denied p) (Denied q) = same_pool p q
same_grant _ _ = false
