use Rattle.std.proofs.Common.{◌≡◌, ◌++◌, map, take}
use Rattle.zone_views.specs.Naming.{Device, object}
use Rattle.zone_views.proofs.viewing.push_devices.Given as goal

abbrev pub invariant-loop-path : goal.invariant-loop-path
invariant-loop-path l = l.objects.items ≡ l.fn.objects.items ++ map (object l.zone Device) (take l.path-index l.paths)
