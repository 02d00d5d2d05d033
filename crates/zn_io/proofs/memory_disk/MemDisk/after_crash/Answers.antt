use Rattle.zn_io.proofs.Crashed.{may_be}
use Rattle.zn_io.proofs.memory_disk.MemDisk.after_crash.Goals as goal

pub returns-clause-may_be : goal.returns-clause-may_be
returns-clause-may_be c = may_be c.crashed.result (λ v. v.items) c.args.fill c.args.self.now c.crashed.ensures
