use Rattle.trace_text.proofs.Fair.{events_right, given_right}
use Rattle.trace_text.proofs.Live_lines.{live_right}
use Rattle.trace_text.proofs.laws.read_events_are_right.Goals as goal

pub returns-clause-given : goal.returns-clause-given
returns-clause-given c = given_right

pub returns-clause-event : goal.returns-clause-event
returns-clause-event c = events_right

pub returns-clause-live : goal.returns-clause-live
returns-clause-live c = live_right
