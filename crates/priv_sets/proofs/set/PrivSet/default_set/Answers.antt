use Rattle.std.proofs.Common.{refl}
use Rattle.priv_sets.specs.Sets.{all_of, default_set, has, set_of, set_of_bits, union}
use Rattle.priv_sets.specs.Table.{is_of, privileges}
use Rattle.priv_sets.proofs.set.PrivSet.default_set.Goals as goal

pub returns : goal.returns
unfolding default_set union all_of set_of set_of_bits has is_of privileges
returns c = refl
