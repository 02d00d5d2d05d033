use Rattle.zones_run.proofs.Tickets_end.{script_tickets_end}
use Rattle.zones_run.proofs.Turns_end as turns_end
use Rattle.zones_run.proofs.laws.script_turns_end.Goals as goal

pub returns-clause-turns : goal.returns-clause-turns
returns-clause-turns c = turns_end.script_turns_end

pub returns-clause-runs : goal.returns-clause-runs
returns-clause-runs c = script_tickets_end
