use Rattle.zones_run.proofs.Resting.{crashes_rest}
use Rattle.zones_run.proofs.laws.crashes_leave_stored_states.Goals as goal

pub returns : goal.returns
returns c = crashes_rest
