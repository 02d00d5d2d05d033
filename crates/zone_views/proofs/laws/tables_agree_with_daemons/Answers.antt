use Rattle.zone_views.proofs.Naming_laws.{tables-agree}
use Rattle.zone_views.proofs.laws.tables_agree_with_daemons.Goals as goal

pub returns : goal.returns
returns c = tables-agree
