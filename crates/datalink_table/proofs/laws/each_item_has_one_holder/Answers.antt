use Rattle.datalink_table.proofs.Kept.{agree-alike, agree-declared, all-claimed, all-none, all-one, all-released}
use Rattle.datalink_table.proofs.laws.each_item_has_one_holder.Goals as goal

pub returns-clause-one : goal.returns-clause-one
returns-clause-one c = all-one

pub returns-clause-once : goal.returns-clause-once
returns-clause-once c = λ cells s z agree. (agree z).once

pub returns-clause-none : goal.returns-clause-none
returns-clause-none c = all-none

pub returns-clause-alike : goal.returns-clause-alike
returns-clause-alike c = λ cells s t agree alike z. agree-alike z (cells z) s t (agree z) alike

pub returns-clause-declared : goal.returns-clause-declared
returns-clause-declared c = λ cells s t c agree declares z. agree-declared z (cells z) s t c (agree z) declares

pub returns-clause-claimed : goal.returns-clause-claimed
returns-clause-claimed c = λ cells s t z c agree may took. all-claimed cells s t z c agree may took

pub returns-clause-released : goal.returns-clause-released
returns-clause-released c = λ cells s t z cs c agree is frees. all-released cells s t z c agree cs is frees
