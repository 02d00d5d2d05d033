use Rattle.std.proofs.Common.{◌≡◌, ◌∙◌, ap, length, arith, subst, sym}
use Rattle.std.specs.Prelude.{IsTrue}
use Rattle.std.proofs.lemmas.Grind.{common_steps}
use Rattle.zn_io.specs.MemoryDisk.{MemoryDisk, HasRoom, changes_of}
use Rattle.zn_io.proofs.Replay.{length-changes_of, total-changes_of, room_by}
use Rattle.zn_io.proofs.memory_disk.MemDisk.has_room.Goals as goal

pub returns : goal.returns
returns c =
    let i = c.self.inside in
    let played = c.self.invariant.0 in
    let m : MemoryDisk = record { opening = i.opening.items; changes = changes_of i.entries.items i.written.items; room = i.room; failing = i.failing.items; stop = i.stop; calls = i.calls; faults = i.faults } in
    let e : c.len.result ≡ length i.entries.items = grind (arith, common_steps) in
    let a : c.len-2.result ≡ length i.written.items = grind (arith, common_steps) in
    let room = room_by m (length i.bytes.items) c.len.result c.len-2.result c.args.at c.args.size (ap length played.reads) (e ∙ sym (length-changes_of i.entries.items i.written.items)) (a ∙ sym (total-changes_of i.entries.items i.written.items played.sized)) c.self.invariant.2.reads in
    subst (λ (m : MemoryDisk). (IsTrue c.fits.result → HasRoom m c.args.at c.args.size) × (HasRoom m c.args.at c.args.size → IsTrue c.fits.result)) c.self.view_is
    (λ t. room.0 (c.fits.ensures.0 t), λ h. c.fits.ensures.1 (room.1 h))
