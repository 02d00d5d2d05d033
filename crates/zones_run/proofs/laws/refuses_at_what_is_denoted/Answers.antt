use Rattle.zones_run.proofs.Refusing.{refusals_denoted}
use Rattle.zones_run.proofs.laws.refuses_at_what_is_denoted.Goals as goal

pub returns : goal.returns
returns c = refusals_denoted
