use Rattle.std.proofs.Common.{◌≡◌, take}
use Rattle.loopback_mounts.specs.Mounts.{listed}
use Rattle.loopback_mounts.proofs.calls.copies.Given as goal

abbrev pub invariant-loop-entry : goal.invariant-loop-entry
invariant-loop-entry l = l.mounts ≡ listed (take l.entry-index l.entries)
