use Rattle.zonecfg_scopes.proofs.Ran.{one_stands}
use Rattle.zonecfg_scopes.proofs.laws.one_stands.Goals as goal

pub returns : goal.returns
returns c = one_stands
