use Rattle.std.proofs.Common.{◌+◌, ◌≤◌, ◌-◌, length}
use Rattle.zn_io.specs.Disk.{OnlyLooks}
use Rattle.zone_disk.specs.declared.bank.TheConstants.{BANK_BYTES}
use Rattle.zone_disk.specs.Read.{HasRecords, IsFrontOf}
use Rattle.zone_disk.proofs.read.read_records.Given as goal

abbrev pub invariant-pieces : goal.invariant-pieces
invariant-pieces g l = record {
  records : HasRecords l.bytes.items l.bodies.items l.place;
  short : length l.bytes.items ≤ (16 + BANK_BYTES);
  front : (g.D.Disk.view l.fn.disk).Keeps → IsFrontOf (g.D.Disk.view l.fn.disk).reads l.fn.bytes.items → IsFrontOf (g.D.Disk.view l.fn.disk).reads l.bytes.items;
  looks : OnlyLooks (g.D.Disk.view l.fn.disk) (g.D.Disk.view l.disk);
}

abbrev pub decreases-pieces : goal.decreases-pieces
decreases-pieces g l = (16 + BANK_BYTES) - length l.bytes.items
