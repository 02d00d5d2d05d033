use Rattle.zoneadmd_laws.proofs.Agreeing.{turn_agrees}
use Rattle.zoneadmd_laws.proofs.Rooms.{turn_roomed}
use Rattle.zoneadmd_laws.proofs.laws.turns_keep_the_agreement.Goals as goal

pub returns-clause-tables : goal.returns-clause-tables
returns-clause-tables c = turn_agrees

pub returns-clause-room : goal.returns-clause-room
returns-clause-room c = turn_roomed
