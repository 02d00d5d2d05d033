use Rattle.std.proofs.Common.{◌≡◌, filter, take}
use Rattle.kernel_objects.specs.Shared.{fits_some}
use Rattle.kernel_objects.proofs.devices.fitting.Given as goal

abbrev pub invariant-loop-device : goal.invariant-loop-device
invariant-loop-device l = l.given.items ≡ filter (fits_some l.patterns) (take l.device-index l.declared)
