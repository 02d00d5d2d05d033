use Rattle.priv_sets.proofs.Bits.{bits-only, small-only}
use Rattle.priv_sets.proofs.set.PrivSet.only.Goals as goal

pub invariant_of-result : goal.invariant_of-result
invariant_of-result c = small-only c.args.number c.requires

pub returns : goal.returns
returns c = bits-only c.args.number c.requires
