use Rattle.zoneadmd_laws.proofs.Bounds.{short}
use Rattle.zoneadmd_laws.proofs.Fewer.{turn_fewer}
use Rattle.zoneadmd_laws.proofs.laws.turns_come_to_an_end.Goals as goal

pub returns : goal.returns
returns c = λ w g small. turn_fewer w g (short w small)
