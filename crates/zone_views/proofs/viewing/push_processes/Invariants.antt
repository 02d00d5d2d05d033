use Rattle.std.proofs.Common.{◌≡◌, ◌++◌, take}
use Rattle.zone_views.specs.Viewing.{processes_told}
use Rattle.zone_views.proofs.viewing.push_processes.Given as goal

abbrev pub invariant-loop-row : goal.invariant-loop-row
invariant-loop-row l = l.objects.items ≡ l.fn.objects.items ++ processes_told l.zone (take l.row-index l.rows)
