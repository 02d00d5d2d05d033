use Rattle.zoneadmd_laws.proofs.Items_laws.{turn_right}
use Rattle.zoneadmd_laws.proofs.laws.each_turn_answers_the_next_item.Goals as goal

pub returns : goal.returns
returns c = turn_right
