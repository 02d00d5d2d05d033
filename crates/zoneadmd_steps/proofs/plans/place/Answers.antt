use Rattle.std.proofs.Common.{rules}
use Rattle.std.proofs.lemmas.List.Sorted.{IsPartitionPoint-from_clause}
use Rattle.loopback_mounts.specs.Mounts.{precedes}
use Rattle.zoneadmd_steps.proofs.Byte_order.{parted, put_at}
use Rattle.zoneadmd_steps.proofs.plans.place.Goals as goal

pub returns-else-goes_behind-clause-put : goal.returns-else-goes_behind-clause-put
returns-else-goes_behind-clause-put c =
    let dir = c.args.dir.now in
    let found = c.partition_point.ensures in
    put_at (λ other. precedes other dir) dir c.args.dirs.now _ found.bound
    (IsPartitionPoint-from_clause (λ other. precedes other dir) c.args.dirs.now _ found.partitioned (parted dir c.args.dirs.now c.requires) (λ a r f' called. search rules))
