use Rattle.session_records.proofs.Places_laws.{busy-works, others-stay, own-moves}
use Rattle.session_records.proofs.places.places_are_apart.Goals as goal

pub returns-clause-others : goal.returns-clause-others
returns-clause-others c = others-stay

pub returns-clause-own : goal.returns-clause-own
returns-clause-own c = own-moves

pub returns-clause-works : goal.returns-clause-works
returns-clause-works c = busy-works
