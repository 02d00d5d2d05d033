use Rattle.session_records.proofs.Waits_laws.{session-waits, turn-works}
use Rattle.session_records.proofs.laws.waits_are_of_sessions.Goals as goal

pub returns-clause-waits : goal.returns-clause-waits
returns-clause-waits c = session-waits

pub returns-clause-works : goal.returns-clause-works
returns-clause-works c = turn-works c.no_turn_is_idle_while_a_session_waits.ensures.awake
