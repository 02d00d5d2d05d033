use Rattle.zoneadmd_laws.proofs.Locally.{local_is_turn, local_leaves, local_owns, local_told}
use Rattle.zoneadmd_laws.proofs.laws.local_turns_share_nothing.Goals as goal

pub returns-clause-decided : goal.returns-clause-decided
returns-clause-decided c = local_is_turn

pub returns-clause-own : goal.returns-clause-own
returns-clause-own c = local_owns

pub returns-clause-common : goal.returns-clause-common
returns-clause-common c = local_leaves

pub returns-clause-reported : goal.returns-clause-reported
returns-clause-reported c = local_told
