use Rattle.zoneadmd_laws.proofs.Undoing.{plan_undoes}
use Rattle.zoneadmd_laws.proofs.laws.a_failure_undoes_what_was_made.Goals as goal

pub returns : goal.returns
returns c = plan_undoes
