use Rattle.trace_text.proofs.Fair.{states_split}
use Rattle.trace_text.proofs.Stated.{just_splits}
use Rattle.trace_text.proofs.laws.given_lines_state_their_splits.Goals as goal

pub returns-clause-event : goal.returns-clause-event
returns-clause-event c = states_split

pub returns-clause-grant : goal.returns-clause-grant
returns-clause-grant c = just_splits
