use Rattle.std.proofs.Common.{◌<◌, ◌+◌, ◌-◌, ◌/◌, arith, sym, ◌∙◌}
use Rattle.std.proofs.lemmas.Bool.{false≢true}
use Rattle.export_read.proofs.ReadBack.{search_down}
use Rattle.export_read.proofs.reader.first_astray.Goals as goal

pub loop-begun-preserved : goal.loop-begun-preserved
loop-begun-preserved c =
    let more : c.loop-begun.begun < c.loop-begun.begun + (c.loop-begun.astray - c.loop-begun.begun) / 2 = omega arith in
    let less : c.loop-begun.begun + (c.loop-begun.astray - c.loop-begun.begun) / 2 < c.loop-begun.astray = omega arith in
    search_down c.args.text.now c.loop-begun.begun c.loop-begun.astray _ c.loop-begun.invariant more less
    (λ b. let yes = c.in_ok-begins.ensures in false≢true (sym c.if-branch.false ∙ yes.1 b))
