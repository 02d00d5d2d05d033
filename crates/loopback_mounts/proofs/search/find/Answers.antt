use Rattle.std.proofs.Common.{sym}
use Rattle.loopback_mounts.proofs.Orders.{found_by, none_by}
use Rattle.loopback_mounts.proofs.search.find.Goals as goal

pub returns-in-Ok : goal.returns-in-Ok
returns-in-Ok c = sym (found_by c.args.dir.now c.args.mounts.now c.in-Ok.at _ c.in-Ok.ensures.found c.index-mounts-at.is)

pub returns-in-Err : goal.returns-in-Err
returns-in-Err c = sym (none_by c.args.dir.now c.args.mounts.now c.in-Err.field-0 c.in-Err.ensures.free)
