use Rattle.datalink_table.proofs.Kept.{agree-alike, agree-already, agree-claimed, agree-claimed_elsewhere, agree-declared, agree-released, agree-released_elsewhere}
use Rattle.datalink_table.proofs.laws.cells_and_shared_part_agree.Goals as goal

pub returns-clause-alike : goal.returns-clause-alike
returns-clause-alike c = agree-alike

pub returns-clause-declared : goal.returns-clause-declared
returns-clause-declared c = agree-declared

pub returns-clause-already : goal.returns-clause-already
returns-clause-already c = λ z cs s c agree may. agree-already z cs s s c agree may

pub returns-clause-claimed : goal.returns-clause-claimed
returns-clause-claimed c = agree-claimed

pub returns-clause-released : goal.returns-clause-released
returns-clause-released c = agree-released

pub returns-clause-claimed_elsewhere : goal.returns-clause-claimed_elsewhere
returns-clause-claimed_elsewhere c = λ y z cs s t c n agree may took. agree-claimed_elsewhere y cs s t z c n agree may took

pub returns-clause-released_elsewhere : goal.returns-clause-released_elsewhere
returns-clause-released_elsewhere c = λ y z ds cs s t c n agree there frees. agree-released_elsewhere y ds s t z cs c n agree there frees
