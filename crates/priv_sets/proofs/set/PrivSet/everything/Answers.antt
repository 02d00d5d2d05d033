use Rattle.priv_sets.proofs.Bits.{bits-everything}
use Rattle.priv_sets.proofs.set.PrivSet.everything.Goals as goal

pub returns : goal.returns
returns c = bits-everything
