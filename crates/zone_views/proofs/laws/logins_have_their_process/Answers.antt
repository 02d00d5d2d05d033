use Rattle.zone_views.proofs.Logins.{there-history}
use Rattle.zone_views.proofs.laws.logins_have_their_process.Goals as goal

pub returns : goal.returns
returns c = there-history
