use Rattle.zones_run.proofs.Permitted.{lines_are_events}
use Rattle.zones_run.proofs.laws.only_script_puts_in.Goals as goal

pub returns : goal.returns
returns c = lines_are_events
