use Rattle.std.proofs.Common.{◌∙◌, ap, is_some, sym}
use Rattle.std.proofs.lemmas.Bool.{false≢true}
use Rattle.datalink_table.proofs.Kept.{held-alike, held-claimed, held-declared, held-released}
use Rattle.datalink_table.proofs.laws.held_items_are_declared.Goals as goal

pub returns-clause-none : goal.returns-clause-none
returns-clause-none c = λ s none d h. absurd (false≢true (ap is_some (sym (none d)) ∙ h))

pub returns-clause-alike : goal.returns-clause-alike
returns-clause-alike c = held-alike

pub returns-clause-declared : goal.returns-clause-declared
returns-clause-declared c = λ s t c held declares. held-declared s t c held declares

pub returns-clause-claimed : goal.returns-clause-claimed
returns-clause-claimed c = λ s t z c held may took. held-claimed s t c held z may took

pub returns-clause-released : goal.returns-clause-released
returns-clause-released c = λ s t c held frees. held-released s t c held frees
