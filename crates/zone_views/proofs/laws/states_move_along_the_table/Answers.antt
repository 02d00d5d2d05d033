use Rattle.zone_machine.specs.Machine.Histories.{after}
use Rattle.zone_machine.specs.Machine.{opening}
use Rattle.zone_views.proofs.Steady.{goes-one, steady-history}
use Rattle.zone_views.proofs.laws.states_move_along_the_table.Goals as goal

pub returns : goal.returns
returns c = λ z brands commits h e g all. (goes-one z (after (opening brands commits) h) e g (steady-history brands commits h all)).moves
