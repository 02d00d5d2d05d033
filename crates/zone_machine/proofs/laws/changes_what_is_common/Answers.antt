use Rattle.zone_machine.proofs.Common_laws.{common-global, common-one, common-whole}
use Rattle.zone_machine.proofs.laws.changes_what_is_common.Goals as goal

pub returns-clause-zone : goal.returns-clause-zone
returns-clause-zone c = common-one

pub returns-clause-global : goal.returns-clause-global
returns-clause-global c = common-global

pub returns-clause-whole : goal.returns-clause-whole
returns-clause-whole c = common-whole
