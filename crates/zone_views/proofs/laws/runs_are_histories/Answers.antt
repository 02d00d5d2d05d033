use Rattle.zone_views.proofs.Runs.{history-run, legal-history}
use Rattle.zone_views.proofs.laws.runs_are_histories.Goals as goal

pub returns-clause-allowed : goal.returns-clause-allowed
returns-clause-allowed c = legal-history

pub returns-clause-stated : goal.returns-clause-stated
returns-clause-stated c = history-run
