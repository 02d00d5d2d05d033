use Rattle.std.proofs.Common.{◌≡◌, take}
use Rattle.zone_machine.specs.Machine.Histories.{replies}
use Rattle.zone_views.proofs.purging.replies_of.Given as goal

abbrev pub invariant-loop-entry : goal.invariant-loop-entry
invariant-loop-entry l = l.list.items ≡ replies l.zone (take l.entry-index l.entries)
