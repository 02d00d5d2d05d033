use Rattle.std.proofs.Common.{◌<◌, arith, length}
use Rattle.std.proofs.lemmas.Bool.Decides.{nat_tests}
use Rattle.export_read.proofs.Steps.{front_more}
use Rattle.export_read.proofs.lines.front.Goals as goal

pub loop-left-preserved : goal.loop-left-preserved
loop-left-preserved c =
    let some : 0 < length c.loop-left.rest.now = grind (arith, nat_tests) in
    front_more c.loop-left.front.items c.push_line.new.out.items c.loop-left.rest.now c.first_line.result.now c.behind_line-rest.result.now c.loop-left.left _ c.loop-left.invariant some (omega arith)
    c.first_line.ensures c.behind_line-rest.ensures c.in_ok-push_line.ensures
