use Rattle.std.proofs.Common.{◌≡◌, ◌∙◌, ◌<◌, ◌≤◌, ◌+◌, ap, length, arith, subst, sym, length-append}
use Rattle.std.proofs.lemmas.List.Elements.{All-nil}
use Rattle.zn_io.specs.declared.room.Extent.{Extent}
use Rattle.zn_io.specs.declared.room.Entry.{Entry}
use Rattle.zn_io.specs.MemoryDisk.{MemoryDisk, with_change}
use Rattle.zn_io.specs.MemoryDisk.Change.{synced}
use Rattle.zn_io.proofs.Replay.{length-changes_of, played_sync, changes_of-push_sync}
use Rattle.zn_io.proofs.memory_disk.MemDisk.keep.Goals as goal

pub push-requires : goal.push-requires
push-requires c =
    let i = c.self.inside in
    let room = subst (λ (m : MemoryDisk). length m.changes < m.room.calls) (sym c.self.view_is) c.requires in
    omega (arith, room, length-changes_of i.entries.items i.written.items, c.self.invariant.3.calls)

pub invariant_of-self : goal.invariant_of-self
invariant_of-self c =
    let i = c.self.inside in
    let room = subst (λ (m : MemoryDisk). length m.changes < m.room.calls) (sym c.self.view_is) c.requires in
    let within = c.self.invariant.2 in
    let most = c.self.invariant.3 in
    let kept : c.extend.new.list.items ≡ i.bytes.items = rw c.clear.ensures.items at c.extend.ensures.items ∙ c.deref.ensures.value in
    rw (kept, c.clear-2.ensures.items, c.push.ensures.items) (
      played_sync i.opening.items i.bytes.items i.kept.items i.written.items i.ranges.items i.entries.items c.self.invariant.0,
      All-nil (λ (r : Extent). r.at + r.size ≤ i.room.length),
      record {
        reads = within.reads;
        kept = omega arith;
        ranges = omega arith;
        calls = omega (arith, length-append {A = Entry}, room, length-changes_of i.entries.items i.written.items);
        written = within.written;
      },
      record {
        reads = most.reads;
        kept = omega (arith, most.kept, c.clear.ensures.capacity, c.extend.ensures.capacity);
        ranges = omega (arith, most.ranges, c.clear-2.ensures.capacity);
        calls = omega (arith, most.calls, c.push.ensures.capacity);
        written = most.written;
      },
    )

pub returns : goal.returns
returns c =
    let i = c.self.inside in
    rw c.push.ensures.items (rw (changes_of-push_sync i.entries.items i.written.items) (ap (λ (m : MemoryDisk). with_change m synced) c.self.view_is))
