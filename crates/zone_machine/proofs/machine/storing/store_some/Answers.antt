use Rattle.std.proofs.Common.{refl}
use Rattle.zone_machine.proofs.machine.storing.store_some.Goals as goal

pub store-requires-clause-free : goal.store-requires-clause-free
store-requires-clause-free c = rw c.in-Row.is at (c.requires.free c.in-Row.stored.owner (rw c.in-Row.is refl))

pub remove-requires : goal.remove-requires
remove-requires c = record { free = rw c.in-Removal.is at (c.requires.free c.in-Removal.owner (rw c.in-Removal.is refl)) }
