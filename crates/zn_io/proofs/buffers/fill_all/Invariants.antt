use Rattle.std.proofs.Common.{◌≡◌, drop}
use Rattle.zn_io.specs.MemoryDisk.{filled}
use Rattle.zn_io.proofs.buffers.fill_all.Given as goal

abbrev pub invariant-loop-range : goal.invariant-loop-range
invariant-loop-range l = filled l.byte l.image.items (drop l.range-index l.ranges) ≡ filled l.byte l.kept l.ranges
