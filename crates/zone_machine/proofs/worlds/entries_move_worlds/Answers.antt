use Rattle.zone_machine.proofs.Alone.{moves-world}
use Rattle.zone_machine.proofs.Own_worlds.{world_by-other}
use Rattle.zone_machine.proofs.worlds.entries_move_worlds.Goals as goal

pub returns-clause-moves : goal.returns-clause-moves
returns-clause-moves c = moves-world

pub returns-clause-others : goal.returns-clause-others
returns-clause-others c z w e h = world_by-other z e.subject w e.event e.grant h
