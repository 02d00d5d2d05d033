use Rattle.std.proofs.Common.{◌≡◌, ◌∙◌, ◌≤◌, length, arith, subst, sym}
use Rattle.std.specs.Prelude.{IsTrue, nat_le}
use Rattle.std.proofs.lemmas.Grind.{common_steps}
use Rattle.zn_io.specs.MemoryDisk.{MemoryDisk}
use Rattle.zn_io.proofs.Replay.{length-changes_of, by_test}
use Rattle.zn_io.proofs.memory_disk.MemDisk.is_full.Goals as goal

pub returns : goal.returns
returns c =
    let i = c.self.inside in
    let e : c.len.result ≡ length i.entries.items = grind (arith, common_steps) in
    let l = length-changes_of i.entries.items i.written.items in
    subst (λ (m : MemoryDisk). (IsTrue (nat_le i.room.calls c.len.result) → m.room.calls ≤ length m.changes) × (m.room.calls ≤ length m.changes → IsTrue (nat_le i.room.calls c.len.result))) c.self.view_is
    (by_test i.room.calls c.len.result _ (e ∙ sym l))
