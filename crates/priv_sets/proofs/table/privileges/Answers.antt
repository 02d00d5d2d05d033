use Rattle.std.proofs.Common.{refl}
use Rattle.priv_sets.specs.Table.{privileges}
use Rattle.priv_sets.proofs.table.privileges.Goals as goal

pub returns : goal.returns
unfolding privileges
returns c = refl
