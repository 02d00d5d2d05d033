use Rattle.zoneadmd_laws.proofs.Halting.{halting}
use Rattle.zoneadmd_laws.proofs.laws.a_halt_stays_one.Goals as goal

pub returns : goal.returns
returns c = λ w g h. halting w g h
