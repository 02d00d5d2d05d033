use Rattle.std.proofs.Common.{ap, inr, arith}
use Rattle.zn_io.specs.MemoryDisk.{MemoryDisk}
use Rattle.zn_io.proofs.Calls.{changed_after, changed_and_failed, follows_wrote, reads_wrote, goes_on_changed}
use Rattle.zn_io.proofs.memory_disk.MemDiskDisk.write_at.Goals as goal

pub returns-then-is_told-clause-unsure : goal.returns-then-is_told-clause-unsure
returns-then-is_told-clause-unsure c keeps =
    inr (reads_wrote _ _ _ _ (changed_and_failed _ _ _ _ (changed_after _ _ _ _ c.count_call-is_told.ensures.counted c.change.ensures) c.fail-then-is_told.ensures.counted))

pub returns-then-is_told-clause-crash : goal.returns-then-is_told-clause-crash
returns-then-is_told-clause-crash c =
    follows_wrote _ _ _ _ (changed_and_failed _ _ _ _ (changed_after _ _ _ _ c.count_call-is_told.ensures.counted c.change.ensures) c.fail-then-is_told.ensures.counted)

pub returns-then-is_told-clause-goes_on : goal.returns-then-is_told-clause-goes_on
returns-then-is_told-clause-goes_on c =
    let before = ap (λ (m : MemoryDisk). m.faults) c.count_call-is_told.ensures.counted in
    let between = ap (λ (m : MemoryDisk). m.faults) c.change.ensures in
    let after = ap (λ (m : MemoryDisk). m.faults) c.fail-then-is_told.ensures.counted in
    goes_on_changed _ _ _ (changed_and_failed _ _ _ _ (changed_after _ _ _ _ c.count_call-is_told.ensures.counted c.change.ensures) c.fail-then-is_told.ensures.counted) _
    (record { later = omega (arith, before, between, c.fail-then-is_told.ensures.later); failed = omega (arith, before, between, after) })

pub returns-clause-written : goal.returns-clause-written
returns-clause-written c keeps = reads_wrote _ _ _ _ (changed_after _ _ _ _ c.count_call-is_told.ensures.counted c.change.ensures)

pub returns-clause-crash : goal.returns-clause-crash
returns-clause-crash c = follows_wrote _ _ _ _ (changed_after _ _ _ _ c.count_call-is_told.ensures.counted c.change.ensures)
