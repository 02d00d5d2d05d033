use Rattle.std.proofs.Common.{◌∷◌, [], zero, suc, arith}
use Rattle.std.specs.List.{All}
use Rattle.brand_hooks.specs.Hooks.{Follows}
use Rattle.views_tests.proofs.machines.make_brands.Goals as goal

-- what holds of a thing holds of each in the list of it
alone : {X : Type 0} (P : X → Type 0) (a : X) → P a → All P (a ∷ [])
alone P a of_a zero d h = of_a
alone P a of_a (suc k) d h = absurd (omega (arith, h))

pub new-requires : goal.new-requires
new-requires g c = rw c.proceed.ensures c.requires

pub returns : goal.returns
returns g c = record { follow = c.new-2.ensures.follow (rw c.in_ok-list.ensures.list (alone (Follows g.F.Fn) c.in_ok-ipkg.ipkg c.in_ok-ipkg.ensures.follows)) }
