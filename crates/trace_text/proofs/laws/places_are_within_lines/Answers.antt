use Rattle.trace_text.proofs.Fair.{given_places, places_within}
use Rattle.trace_text.proofs.Live_lines.{live_places}
use Rattle.trace_text.proofs.laws.places_are_within_lines.Goals as goal

pub returns-clause-given : goal.returns-clause-given
returns-clause-given c = given_places

pub returns-clause-event : goal.returns-clause-event
returns-clause-event c = places_within

pub returns-clause-live : goal.returns-clause-live
returns-clause-live c = live_places
