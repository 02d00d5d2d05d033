use Rattle.session_records.proofs.Runs.{legal-part, legal-run}
use Rattle.session_records.proofs.laws.run_records_are_legal.Goals as goal

pub returns-clause-whole : goal.returns-clause-whole
returns-clause-whole c = legal-run

pub returns-clause-part : goal.returns-clause-part
returns-clause-part c = legal-part
