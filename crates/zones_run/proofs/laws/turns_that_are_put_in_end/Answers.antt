use Rattle.zones_run.proofs.Turns_end.{turns_end}
use Rattle.zones_run.proofs.laws.turns_that_are_put_in_end.Goals as goal

pub returns : goal.returns
returns c = turns_end
