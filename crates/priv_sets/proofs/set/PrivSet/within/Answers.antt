use Rattle.priv_sets.proofs.Bits.{bits-within}
use Rattle.priv_sets.proofs.set.PrivSet.within.Goals as goal

pub returns : goal.returns
returns c = let e = bits-within c.self.inside.bits c.other.inside.bits c.self.invariant c.other.invariant in cc
