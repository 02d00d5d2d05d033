use Rattle.zone_machine.proofs.Local_laws.{local-awake, local-common, local-right, local-world}
use Rattle.zone_machine.proofs.laws.local_turns_touch_nothing_common.Goals as goal

pub returns-clause-right : goal.returns-clause-right
returns-clause-right c = local-right

pub returns-clause-common : goal.returns-clause-common
returns-clause-common c = local-common

pub returns-clause-world : goal.returns-clause-world
returns-clause-world c = local-world

pub returns-clause-awake : goal.returns-clause-awake
returns-clause-awake c = local-awake
