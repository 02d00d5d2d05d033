use Rattle.std.proofs.Common.{rules, ◌<◌, ◌∙◌, arith, length}
use Rattle.zone_threads.proofs.Endings.{noted_all, noted_log}
use Rattle.zone_threads.proofs.end.note_logs.Goals as goal

pub note_log-requires-clause-few : goal.note_log-requires-clause-few
note_log-requires-clause-few g c κs within = let wide = (c.loop-log.invariant.noted c.requires.closed).wide in omega arith

pub loop-log-preserved : goal.loop-log-preserved
loop-log-preserved g c =
    let D = g.M.Zoned.machine in
    let zones = g.N.Outset.zones in
    let logs = c.args.logs.now in
    let i = c.loop-log.log-index in
    let log = c.log-item.result in
    let first = c.args.part.now in
    let old = c.loop-log.part in
    let new = c.note_log.new.part in
    let near : i < length logs = search rules in
    let count = c.requires.closed.count in
    let same = c.note_log.ensures.room in
    record {
      noted = λ C. noted_log D g.J.Start.starts g.J.Start.scripts zones first.shared first.tally.items first.order.items logs C i log old.shared new.shared old.tally.items new.tally.items old.order.items new.order.items near c.log-item.is
          (c.loop-log.invariant.noted C) c.note_log.ensures.stands c.note_log.ensures.wide;
      shared = c.note_log.ensures.shared ∙ c.loop-log.invariant.shared;
      room = (let was = c.loop-log.invariant.room in let more = same.0 in let still = same.1 in omega arith);
    }

pub returns : goal.returns
returns g c =
    let first = c.args.part.now in
    let new = c.loop-log.part in
    noted_all g.M.Zoned.machine g.J.Start.starts g.J.Start.scripts g.N.Outset.zones first.shared first.tally.items first.order.items c.args.logs.now c.requires.closed g.met.M.Machine.laws
    c.loop-log.log-index new.shared new.tally.items new.order.items (search rules) c.loop-log.invariant.shared (c.loop-log.invariant.noted c.requires.closed)
