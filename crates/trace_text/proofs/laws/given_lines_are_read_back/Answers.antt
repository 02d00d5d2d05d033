use Rattle.trace_text.proofs.Live_lines.{live_again}
use Rattle.trace_text.proofs.Printed.{event_again}
use Rattle.trace_text.proofs.Read_back.{given_again}
use Rattle.trace_text.proofs.laws.given_lines_are_read_back.Goals as goal

pub returns-clause-given : goal.returns-clause-given
returns-clause-given c = given_again

pub returns-clause-event : goal.returns-clause-event
returns-clause-event c = event_again

pub returns-clause-live : goal.returns-clause-live
returns-clause-live c = live_again
