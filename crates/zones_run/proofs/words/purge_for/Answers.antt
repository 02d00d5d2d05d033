use Rattle.std.proofs.Common.{Err, ap}
use Rattle.zones_run.proofs.Purging.{purges}
use Rattle.zones_run.proofs.words.purge_for.Goals as goal

pub returns-in-Err-Memory-clause-memory : goal.returns-in-Err-Memory-clause-memory
returns-in-Err-Memory-clause-memory c = purges c.args.word.now (rw c.as_bytes.ensures.value at (c.in-Err-Memory.ensures.memory (ap Err c.in-Err-Memory.field-0-is)))
