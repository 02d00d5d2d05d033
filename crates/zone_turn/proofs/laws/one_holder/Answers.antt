use Rattle.zone_turn.proofs.Calls.{one_out}
use Rattle.zone_turn.proofs.laws.one_holder.Goals as goal

pub returns : goal.returns
returns g c = λ s r. one_out g.T.Storied.stands_for g.T.Storied.belongs_to s r
