use Rattle.zones_run.proofs.Denoting.{exports_denoted}
use Rattle.zones_run.proofs.laws.exports_what_is_denoted.Goals as goal

pub returns : goal.returns
returns c = exports_denoted
