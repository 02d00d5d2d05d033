use Rattle.std.proofs.Common.{◌≡◌, sym, true}
use Rattle.loopback_mounts.specs.Paths.{covers}
use Rattle.loopback_mounts.proofs.Over.{over_covers}
use Rattle.loopback_mounts.proofs.cell.MountCell.resolve.Goals as goal

pub rest_below-requires-clause-over : goal.rest_below-requires-clause-over
rest_below-requires-clause-over c =
    let over : covers c.in-Some.entry.now.mount.dir c.bytes.result.now ≡ true = over_covers c.entries.result.now c.bytes.result.now c.in-Some.entry.now (sym c.in-Some.ensures) in
    rw (c.bytes-3.ensures.bytes, c.bytes-2.ensures.bytes, ← c.bytes.ensures.bytes) over
