use Rattle.zone_machine.proofs.Common_laws.{allowed-common, fits-common, need-common}
use Rattle.zone_machine.proofs.laws.allowed_by_what_is_common.Goals as goal

pub returns-clause-need : goal.returns-clause-need
returns-clause-need c = need-common

pub returns-clause-allowed : goal.returns-clause-allowed
returns-clause-allowed c = allowed-common

pub returns-clause-fits : goal.returns-clause-fits
returns-clause-fits c = λ z S T e g is once h w. fits-common z S T e is once h w g
