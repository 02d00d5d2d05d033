use Rattle.std.proofs.Common.{◌∷◌, [], ℕ, zero, suc, arith}
use Rattle.std.specs.List.{All}
use Rattle.brand_hooks.specs.Hooks.{Follows}
use Rattle.live_tests.proofs.brands.make_brands.Goals as goal

-- what holds of a thing holds of each in the list of it alone
one : {X : Type 0} (P : X → Type 0) (a : X) → P a → All P (a ∷ [])
one P a of_a zero d h = of_a
one P a of_a (suc k) d h = absurd (omega (arith, h))

pub new-requires : goal.new-requires
new-requires g c = rw c.proceed.ensures c.requires.ipkg

pub returns : goal.returns
returns g c = record { follow = c.new-2.ensures.follow (rw c.in_ok-list.ensures.list (one (Follows g.F.Fn) c.in_ok-ipkg.ipkg c.in_ok-ipkg.ensures.follows)) }
