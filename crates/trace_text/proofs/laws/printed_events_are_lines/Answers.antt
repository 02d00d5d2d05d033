use Rattle.trace_text.proofs.Printable.{given_cut, given_printable, line_cut, line_printable}
use Rattle.trace_text.proofs.laws.printed_events_are_lines.Goals as goal

pub returns-clause-given : goal.returns-clause-given
returns-clause-given c = given_printable

pub returns-clause-event : goal.returns-clause-event
returns-clause-event c = line_printable

pub returns-clause-given_cut : goal.returns-clause-given_cut
returns-clause-given_cut c = given_cut

pub returns-clause-event_cut : goal.returns-clause-event_cut
returns-clause-event_cut c = line_cut
