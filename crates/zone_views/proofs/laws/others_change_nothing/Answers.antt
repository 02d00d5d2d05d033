use Rattle.zone_machine.proofs.Own_worlds.{leaves}
use Rattle.zone_views.proofs.laws.others_change_nothing.Goals as goal

pub returns : goal.returns
returns c = leaves
