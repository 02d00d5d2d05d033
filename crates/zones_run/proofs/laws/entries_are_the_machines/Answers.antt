use Rattle.zones_run.proofs.Permitted.{entries_permitted}
use Rattle.zones_run.proofs.laws.entries_are_the_machines.Goals as goal

pub returns : goal.returns
returns c = entries_permitted
