use Rattle.zoneadmd_laws.proofs.Points.{claimed_next, down_next, made_now, mounted_next, release_next, root_next, says, undo_now}
use Rattle.zoneadmd_laws.proofs.laws.the_agreement_says.Goals as goal

pub returns-clause-nothing : goal.returns-clause-nothing
returns-clause-nothing c = λ w h. (says w h).nothing

pub returns-clause-one_id : goal.returns-clause-one_id
returns-clause-one_id c = λ w h. (says w h).either

pub returns-clause-active : goal.returns-clause-active
returns-clause-active c = λ w h. (says w h).active

pub returns-clause-installed : goal.returns-clause-installed
returns-clause-installed c = λ w h. (says w h).installed

pub returns-clause-id : goal.returns-clause-id
returns-clause-id c = λ w h. (says w h).one

pub returns-clause-processes : goal.returns-clause-processes
returns-clause-processes c = λ w h. (says w h).runs

pub returns-clause-made : goal.returns-clause-made
returns-clause-made c = made_now

pub returns-clause-undone : goal.returns-clause-undone
returns-clause-undone c = undo_now

pub returns-clause-unmounted : goal.returns-clause-unmounted
returns-clause-unmounted c = release_next

pub returns-clause-cleared : goal.returns-clause-cleared
returns-clause-cleared c = down_next

pub returns-clause-root : goal.returns-clause-root
returns-clause-root c = root_next

pub returns-clause-mounted : goal.returns-clause-mounted
returns-clause-mounted c = mounted_next

pub returns-clause-claimed : goal.returns-clause-claimed
returns-clause-claimed c = claimed_next
