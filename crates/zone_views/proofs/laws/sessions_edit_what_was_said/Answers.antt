use Rattle.zone_views.proofs.Edits.{denoted-history}
use Rattle.zone_views.proofs.laws.sessions_edit_what_was_said.Goals as goal

pub returns : goal.returns
returns c = denoted-history
