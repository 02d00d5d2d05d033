use Rattle.std.proofs.Common.{◌≡◌, ◌<◌, ℕ}
use Rattle.std.specs.Prelude.{true}
use Rattle.zone_disk.specs.Image.{is_right}
use Rattle.zone_disk.proofs.header.first_wrong.Given as goal

abbrev pub invariant-loop-place : goal.invariant-loop-place
invariant-loop-place l = (k : ℕ) → k < l.place → is_right l.bytes k ≡ true
