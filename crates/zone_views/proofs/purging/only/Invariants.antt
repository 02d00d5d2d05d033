use Rattle.std.proofs.Common.{◌≡◌, take}
use Rattle.zone_machine.specs.Machine.Histories.{only}
use Rattle.zone_views.proofs.purging.only.Given as goal

abbrev pub invariant-loop-entry : goal.invariant-loop-entry
invariant-loop-entry l = l.kept.items ≡ only l.zone (take l.entry-index l.entries)
