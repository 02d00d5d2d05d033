use Rattle.std.proofs.lemmas.Nat.{or_lt}
use Rattle.priv_sets.proofs.Bits.{bits-union}
use Rattle.priv_sets.proofs.set.PrivSet.union.Goals as goal

pub invariant_of-result : goal.invariant_of-result
invariant_of-result c = or_lt 40 _ _ c.self.invariant c.other.invariant

pub returns : goal.returns
returns c = let e = bits-union c.self.inside.bits c.other.inside.bits in cc
