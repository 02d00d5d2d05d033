use Rattle.std.proofs.Common.{◌≡◌, take}
use Rattle.zn_base.proofs.listing.try_clone_all.Given as goal

abbrev pub invariant-loop-item : goal.invariant-loop-item
invariant-loop-item g l = l.list ≡ take l.item-index l.items
