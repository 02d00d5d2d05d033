use Rattle.zonecfg_scopes.proofs.Causes.{first_of_causes}
use Rattle.zonecfg_scopes.proofs.laws.refusal_is_the_first_cause.Goals as goal

pub returns : goal.returns
returns c = first_of_causes
