use Rattle.std.proofs.Common.{arith}
use Rattle.zone_disk.proofs.Right.{may_behind}
use Rattle.zone_disk.proofs.header.may_stand.Goals as goal

pub returns-in_default : goal.returns-in_default
returns-in_default c = may_behind c.args.place c.args.byte (omega arith) (omega arith) (omega arith)
