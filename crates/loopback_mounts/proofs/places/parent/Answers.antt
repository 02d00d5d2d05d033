use Rattle.std.proofs.Common.{ℕ, subst, sym, take}
use Rattle.loopback_mounts.specs.Paths.{IsParent}
use Rattle.loopback_mounts.proofs.Over.{parent_parts}
use Rattle.loopback_mounts.proofs.places.parent.Goals as goal

pub returns-clause-parent : goal.returns-clause-parent
returns-clause-parent c =
    subst (λ (k : ℕ). IsParent c.args.path.now (take k c.args.path.now)) (sym c.max.ensures)
    (parent_parts c.args.path.now c.loop-end.end c.requires.path c.requires.below c.loop-end.invariant.0 c.loop-end-test.false c.loop-end.invariant.1)
