use Rattle.zn_io.proofs.Calls.{changed_after, durable_synced, reads_synced, fewer_synced}
use Rattle.zn_io.proofs.memory_disk.MemDiskDisk.sync.Goals as goal

pub returns-clause-durable : goal.returns-clause-durable
returns-clause-durable c = durable_synced _ _ (changed_after _ _ _ _ c.count_call.ensures.counted c.keep.ensures)

pub returns-clause-same : goal.returns-clause-same
returns-clause-same c keeps = reads_synced _ _ (changed_after _ _ _ _ c.count_call.ensures.counted c.keep.ensures)

pub returns-clause-crash : goal.returns-clause-crash
returns-clause-crash c = fewer_synced _ _ (changed_after _ _ _ _ c.count_call.ensures.counted c.keep.ensures)
