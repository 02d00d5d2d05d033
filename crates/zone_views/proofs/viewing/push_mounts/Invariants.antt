use Rattle.std.proofs.Common.{◌≡◌, ◌++◌, take}
use Rattle.zone_views.specs.Viewing.{mounts_told}
use Rattle.zone_views.proofs.viewing.push_mounts.Given as goal

abbrev pub invariant-loop-mount : goal.invariant-loop-mount
invariant-loop-mount l = l.objects.items ≡ l.fn.objects.items ++ mounts_told l.zone (take l.mount-index l.mounts)
