use Rattle.std.proofs.Common.{◌∷◌, [], ℕ, zero, suc, arith}
use Rattle.std.specs.List.{All}
use Rattle.brand_hooks.specs.Hooks.{Follows}
use Rattle.zones_tests.proofs.brands.make_brands.Goals as goal

-- what holds of two things holds of each in the list of both
both : {X : Type 0} (P : X → Type 0) (a b : X) → P a → P b → All P (a ∷ b ∷ [])
both P a b of_a of_b zero d h = of_a
both P a b of_a of_b (suc zero) d h = of_b
both P a b of_a of_b (suc (suc k)) d h = absurd (omega (arith, h))

pub new-requires : goal.new-requires
new-requires g c = rw c.proceed-2.ensures c.requires.ipkg

pub new-requires-2 : goal.new-requires-2
new-requires-2 g c = rw (c.with-clones.ensures, c.proceed.ensures) c.requires.lx

pub returns : goal.returns
returns g c = record { follow = c.new-3.ensures.follow (rw c.in_ok-list.ensures.list (both (Follows g.F.Fn) c.in_ok-ipkg.ipkg c.in_ok-lx.lx c.in_ok-ipkg.ensures.follows c.in_ok-lx.ensures.follows)) }
