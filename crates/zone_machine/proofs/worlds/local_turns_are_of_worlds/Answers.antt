use Rattle.zone_machine.proofs.Alone.{local-world}
use Rattle.zone_machine.proofs.worlds.local_turns_are_of_worlds.Goals as goal

pub returns : goal.returns
returns c = local-world
