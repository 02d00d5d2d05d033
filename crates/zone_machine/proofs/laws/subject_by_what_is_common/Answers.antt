use Rattle.zone_machine.proofs.Common_laws.{subject-common}
use Rattle.zone_machine.proofs.laws.subject_by_what_is_common.Goals as goal

pub returns : goal.returns
returns c = subject-common
