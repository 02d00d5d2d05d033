use Rattle.datalink_table.proofs.Kept.{holds-but_last, holds-last}
use Rattle.datalink_table.proofs.laws.items_of_a_zone.Goals as goal

pub returns-clause-claimed : goal.returns-clause-claimed
returns-clause-claimed c = λ c d cs. holds-last d c cs

pub returns-clause-released : goal.returns-clause-released
returns-clause-released c = λ c d cs once. holds-but_last d c cs once
