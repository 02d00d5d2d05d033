use Rattle.std.proofs.Common.{◌≡◌, ◌&&◌, nat_lt}
use Rattle.priv_sets.specs.Sets.{set_of}
use Rattle.priv_sets.specs.Table.{is_of}
use Rattle.priv_sets.proofs.set.PrivSet.all_of.Given as goal

-- the set has those of the class below the number
abbrev pub invariant-loop-number : goal.invariant-loop-number
invariant-loop-number l = l.set ≡ set_of (λ n. nat_lt n l.number && is_of l.class n)
