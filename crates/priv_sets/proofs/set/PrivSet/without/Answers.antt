use Rattle.priv_sets.proofs.Bits.{bits-without}
use Rattle.priv_sets.proofs.set.PrivSet.without.Goals as goal

pub returns : goal.returns
returns c = let e = bits-without c.self.inside.bits c.other.inside.bits c.other.invariant in cc
