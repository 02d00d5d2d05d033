use Rattle.std.proofs.Common.{◌≡◌, drop}
use Rattle.std.specs.List.{flat_map}
use Rattle.config_verify.specs.Flaws.{first, flaws_of_device}
use Rattle.config_verify.proofs.resources.flaw_of_devices.Given as goal

-- those before the place have no flaw
abbrev pub invariant-loop-device : goal.invariant-loop-device
invariant-loop-device l = first (flat_map flaws_of_device l.all) ≡ first (flat_map flaws_of_device (drop l.device-index l.all))
