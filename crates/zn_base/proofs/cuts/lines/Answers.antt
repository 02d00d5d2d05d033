use Rattle.std.proofs.Common.{sym, ◌∙◌}
use Rattle.zn_base.proofs.Newlines.{last_line, next_line, no_line}
use Rattle.zn_base.proofs.cuts.lines.Goals as goal
use Rattle.zn_base.proofs.cuts.lines.Goals.{then-not-is_empty+in_ok-from_slice-2+in_ok-push-2, else-not-is_empty}

pub loop-at-preserved : goal.loop-at-preserved
loop-at-preserved c =
    next_line c.loop-at.lines c.push.new.self c.args.text.now c.loop-at.rest.now c.tail-rest.result.now c.in_ok-from_slice.field-0 c.in-Some.at
    c.loop-at.invariant (sym c.place_of_byte.ensures.place ∙ c.in-Some.is) (c.in_ok-from_slice.ensures ∙ c.front.ensures) c.tail-rest.ensures c.in_ok-push.ensures

pub returns : goal.returns
returns c = elim c.if-not-is_empty.branch [
  | then-not-is_empty+in_ok-from_slice-2+in_ok-push-2 w ↦
      last_line c.loop-at.lines c.if-not-is_empty.lines c.args.text.now c.loop-at.rest.now w.in_ok-from_slice-2.field-0 c.loop-at.invariant
      (sym c.place_of_byte.ensures.place ∙ c.in_default.is) w.if-not-is_empty.ensures w.in_ok-from_slice-2.ensures (w.lines-is ∙ w.in_ok-push-2.ensures)
  | else-not-is_empty w ↦ no_line c.loop-at.lines c.if-not-is_empty.lines c.args.text.now c.loop-at.rest.now c.loop-at.invariant w.if-not-is_empty.ensures w.lines-is
]
