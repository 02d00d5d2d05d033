use Rattle.session_records.proofs.Places_laws.{local-leaves-common, local-place, local-right-at, local-works}
use Rattle.session_records.proofs.places.local_turns_stay_in_their_place.Goals as goal

pub returns-clause-place : goal.returns-clause-place
returns-clause-place c = local-place

pub returns-clause-works : goal.returns-clause-works
returns-clause-works c = local-works

pub returns-clause-right : goal.returns-clause-right
returns-clause-right c = local-right-at

pub returns-clause-common : goal.returns-clause-common
returns-clause-common c = local-leaves-common
