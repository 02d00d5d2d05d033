use Rattle.zone_machine.specs.Machine.Histories.{after}
use Rattle.zone_machine.specs.Machine.{opening}
use Rattle.zone_views.proofs.Numbered.{allowed-fits, legal-fits, numbered-history}
use Rattle.zone_views.proofs.laws.allowed_grants_fit.Goals as goal

pub returns-clause-now : goal.returns-clause-now
returns-clause-now c = λ brands commits h e is. allowed-fits (after (opening brands commits) h) e (numbered-history brands commits h is)

pub returns-clause-legal : goal.returns-clause-legal
returns-clause-legal c = legal-fits
