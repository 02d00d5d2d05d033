use Rattle.trace_text.proofs.Live_lines.{says_just}
use Rattle.trace_text.proofs.laws.live_lines_say_what_trace_lines_say.Goals as goal

pub returns : goal.returns
returns c = says_just
