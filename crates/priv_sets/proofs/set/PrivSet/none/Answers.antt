use Rattle.priv_sets.proofs.Bits.{bits-none}
use Rattle.priv_sets.proofs.set.PrivSet.none.Goals as goal

pub returns : goal.returns
returns c = bits-none
