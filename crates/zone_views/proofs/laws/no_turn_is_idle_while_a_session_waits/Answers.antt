use Rattle.zone_views.proofs.Waiting.{awake-history, open-history}
use Rattle.zone_views.proofs.laws.no_turn_is_idle_while_a_session_waits.Goals as goal

pub returns-clause-waits : goal.returns-clause-waits
returns-clause-waits c = open-history

pub returns-clause-awake : goal.returns-clause-awake
returns-clause-awake c = awake-history
