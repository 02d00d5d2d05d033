use Rattle.std.proofs.Common.{◌≡◌, length, true}
use Rattle.zn_base.specs.Path.{is_path}
use Rattle.loopback_mounts.specs.Places.{mount_over}
use Rattle.loopback_mounts.proofs.places.mount_over.Given as goal

abbrev pub invariant-loop-entry : goal.invariant-loop-entry
invariant-loop-entry l = (is_path l.dir ≡ true) × (mount_over l.mounts l.dir ≡ mount_over l.mounts l.path)

abbrev pub decreases-loop-entry : goal.decreases-loop-entry
decreases-loop-entry l = length l.dir
