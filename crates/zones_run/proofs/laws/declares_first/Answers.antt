use Rattle.zones_run.proofs.Declaring.{declares-first}
use Rattle.zones_run.proofs.laws.declares_first.Goals as goal

pub returns : goal.returns
returns c = declares-first
