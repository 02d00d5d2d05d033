-- The tests of `Same` say what is one.
use Rattle.std.proofs.Common.{◌≡◌, true, refl, ap}
use Rattle.std.specs.Bool.{Decides}
use Rattle.std.proofs.lemmas.Bool.{eq-eqb, eqb-true, false≢true}
use Rattle.zn_base.proofs.Same_laws.{decides}
use Rattle.zone_pools.specs.Same.{same_grant, same_pool}
use Rattle.zone_pools.specs.contracts.grant.Pool.{the_type as pool_type}
use Rattle.zone_pools.specs.declared.grant.Grant.{Grant}
use Rattle.zone_pools.specs.declared.grant.Grant.TheVariants.{Nothing, Number, Yes, Denied}
use Rattle.zone_pools.specs.declared.grant.Pool.{Pool}
use denote.Enum.Bare.{same_true, true_same}

pub pool-Decides : (a b : Pool) → Decides (same_pool a b) (a ≡ b)
pool-Decides a b = (same_true pool_type tt a b, true_same pool_type a b)

grant-true : (a b : Grant) → same_grant a b ≡ true → a ≡ b
grant-true Nothing Nothing h = refl
grant-true (Number m) (Number n) h = ap Number (eqb-true m n h)
grant-true Yes Yes h = refl
grant-true (Denied p) (Denied q) h = ap Denied ((pool-Decides p q).0 h)
grant-true _ _ h = absurd (false≢true h)

grant-self : (a : Grant) → same_grant a a ≡ true
grant-self Nothing = refl
grant-self (Number n) = eq-eqb n n refl
grant-self Yes = refl
grant-self (Denied p) = (pool-Decides p p).1 refl

pub grant-Decides : (a b : Grant) → Decides (same_grant a b) (a ≡ b)
grant-Decides = decides same_grant grant-true grant-self
