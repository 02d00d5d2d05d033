use Rattle.priv_sets.proofs.Bits.{bits-both}
use Rattle.priv_sets.proofs.set.PrivSet.both.Goals as goal

pub returns : goal.returns
returns c = let e = bits-both c.self.inside.bits c.other.inside.bits in cc
