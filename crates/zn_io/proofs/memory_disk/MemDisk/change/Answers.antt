use Rattle.std.proofs.Common.{◌+◌, ◌≤◌, ap, length, arith, refl, subst, sym, length-append}
use Rattle.std.proofs.lemmas.List.Elements.{All-push}
use Rattle.zn_io.specs.declared.room.Extent.{Extent}
use Rattle.zn_io.specs.declared.room.Entry.{Entry}
use Rattle.zn_io.specs.MemoryDisk.{MemoryDisk, HasRoom, with_change}
use Rattle.zn_io.specs.MemoryDisk.Change.{wrote}
use Rattle.zn_io.proofs.Replay.{room_facts, length-patched, played_write, changes_of-push}
use Rattle.zn_io.proofs.memory_disk.MemDisk.change.Goals as goal

pub push-requires : goal.push-requires
push-requires c =
    let i = c.self.inside in
    let room = room_facts _ i.entries.items i.written.items c.args.at (length c.args.bytes.now) refl c.self.invariant.0.sized (subst (λ (m : MemoryDisk). HasRoom m c.args.at (length c.args.bytes.now)) (sym c.self.view_is) c.requires) in
    omega (arith, room.0, c.self.invariant.2.ranges, c.self.invariant.3.ranges)

pub push-requires-2 : goal.push-requires-2
push-requires-2 c =
    let i = c.self.inside in
    let room = room_facts _ i.entries.items i.written.items c.args.at (length c.args.bytes.now) refl c.self.invariant.0.sized (subst (λ (m : MemoryDisk). HasRoom m c.args.at (length c.args.bytes.now)) (sym c.self.view_is) c.requires) in
    omega (arith, room.0, c.self.invariant.3.calls)

pub extend-requires : goal.extend-requires
extend-requires c =
    let i = c.self.inside in
    let room = room_facts _ i.entries.items i.written.items c.args.at (length c.args.bytes.now) refl c.self.invariant.0.sized (subst (λ (m : MemoryDisk). HasRoom m c.args.at (length c.args.bytes.now)) (sym c.self.view_is) c.requires) in
    omega (arith, room.1, c.self.invariant.3.written)

pub invariant_of-self : goal.invariant_of-self
invariant_of-self c =
    let i = c.self.inside in
    let room = room_facts _ i.entries.items i.written.items c.args.at (length c.args.bytes.now) refl c.self.invariant.0.sized (subst (λ (m : MemoryDisk). HasRoom m c.args.at (length c.args.bytes.now)) (sym c.self.view_is) c.requires) in
    let within = c.self.invariant.2 in
    let most = c.self.invariant.3 in
    rw (c.put.ensures.bytes, c.push.ensures.items, c.push-2.ensures.items, c.extend.ensures.items) (
      played_write i.opening.items i.bytes.items i.kept.items i.written.items i.ranges.items i.entries.items c.self.invariant.0 c.args.at c.args.bytes.now,
      All-push (λ (r : Extent). r.at + r.size ≤ i.room.length) i.ranges.items (record { at = c.args.at; size = length c.args.bytes.now }) c.self.invariant.1 room.2,
      record {
        reads = omega (arith, length-patched i.bytes.items c.args.at c.args.bytes.now, within.reads, room.2);
        kept = omega (arith, length-patched i.bytes.items c.args.at c.args.bytes.now, within.kept);
        ranges = omega (arith, length-append {A = Extent}, length-append {A = Entry}, within.ranges);
        calls = omega (arith, length-append {A = Entry}, room.0);
        written = omega (arith, length-append i.written.items c.args.bytes.now, room.1);
      },
      record {
        reads = omega (arith, most.reads, c.put.ensures.capacity);
        kept = most.kept;
        ranges = omega (arith, most.ranges, c.push.ensures.capacity);
        calls = omega (arith, most.calls, c.push-2.ensures.capacity);
        written = omega (arith, most.written, c.extend.ensures.capacity);
      },
    )

pub returns : goal.returns
returns c =
    let i = c.self.inside in
    rw (c.push-2.ensures.items, c.extend.ensures.items) (rw (changes_of-push i.entries.items i.written.items c.args.bytes.now (record { at = c.args.at; size = length c.args.bytes.now }) c.self.invariant.0.sized refl) (ap (λ (m : MemoryDisk). with_change m (wrote c.args.at c.args.bytes.now)) c.self.view_is))
