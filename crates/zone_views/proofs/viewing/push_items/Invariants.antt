use Rattle.std.proofs.Common.{◌≡◌, ◌++◌, map, take}
use Rattle.zone_views.specs.Naming.{object}
use Rattle.zone_views.proofs.viewing.push_items.Given as goal

abbrev pub invariant-loop-item : goal.invariant-loop-item
invariant-loop-item l = l.objects.items ≡ l.fn.objects.items ++ map (object l.zone l.kind) (take l.item-index l.items)
