use Rattle.std.proofs.Common.{◌≡◌, ◌<◌, ◌≤◌, ◌-◌, ◌++◌, length, drop}
use Rattle.zone_disk.specs.Image.{blocks}
use Rattle.zone_disk.proofs.read.take_records.Given as goal

abbrev pub invariant-loop-rest : goal.invariant-loop-rest
invariant-loop-rest l = record {
  read : blocks l.bodies.items ++ l.rest ≡ blocks l.fn.bodies.items ++ l.bytes;
  more : 0 < length l.rest;
  shorter : length l.rest ≤ length l.bytes;
  behind : l.rest ≡ drop (length l.bytes - length l.rest) l.bytes;
}

abbrev pub decreases-loop-rest : goal.decreases-loop-rest
decreases-loop-rest l = length l.rest
