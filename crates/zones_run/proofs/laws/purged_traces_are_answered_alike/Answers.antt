use Rattle.zones_run.proofs.Purged_runs.{purged_runs}
use Rattle.zones_run.proofs.laws.purged_traces_are_answered_alike.Goals as goal

pub returns : goal.returns
returns c = purged_runs
