use Rattle.zone_machine.proofs.Local_laws.{busy-turn}
use Rattle.zone_machine.proofs.laws.busy_turns_are_not_idle.Goals as goal

pub returns : goal.returns
returns c = busy-turn
