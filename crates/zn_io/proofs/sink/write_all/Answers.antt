use Rattle.std.proofs.Common.{arith, length-drop}
use Rattle.zn_io.proofs.Known.{takes_more}
use Rattle.zn_io.proofs.sink.write_all.Goals as goal

pub loop-taken-preserved : goal.loop-taken-preserved
loop-taken-preserved g c =
    let taken = c.loop-taken.taken in
    let bytes = c.args.bytes.now in
    record {
      within = omega (arith, length-drop taken bytes, rw c.rest_from.ensures at c.in_ok-taken.ensures.bound);
      front = takes_more _ _ _ taken c.in_ok-taken.field-0 bytes _ c.rest_from.ensures c.loop-taken.invariant.front c.in_ok-taken.ensures.bytes;
      later = omega (arith, c.loop-taken.invariant.later, c.write.ensures.cause.later);
    }
