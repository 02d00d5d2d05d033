use Rattle.std.proofs.Common.{◌∙◌, ap, arith}
use Rattle.zn_io.specs.Streams.{before_known}
use Rattle.input_lines.proofs.Begins.{begins_line}
use Rattle.input_lines.proofs.Cuts.{last_line, whole_line, long_line, goes_on, clean_on, took_line}
use Rattle.input_lines.proofs.lines.next_line.Goals as goal

pub returns-in_err-refill-clause-begun : goal.returns-in_err-refill-clause-begun
returns-in_err-refill-clause-begun g c = λ _.
    begins_line _ _ c.loop-line.line.items (c.loop-line.invariant.same ∙ ap (before_known c.loop-line.line.items) c.in_err-refill.ensures.kept) c.loop-line.invariant.clean c.loop-line.invariant.short

pub returns-else-is_empty-clause-got : goal.returns-else-is_empty-clause-got
returns-else-is_empty-clause-got g c =
    let at_end = c.in_ok-refill.ensures.end c.if-not-branch.true in (
      last_line _ _ c.loop-line.line.items _ (c.loop-line.invariant.same ∙ ap (before_known c.loop-line.line.items) c.in_ok-refill.ensures.bytes)
          c.loop-line.invariant.clean (grind (arith, c.if-is_empty.ensures, c.loop-line.line.ok.0)) at_end.0 at_end.1,
      c.loop-line.invariant.short,
    )

pub returns-in-Ends-clause-got : goal.returns-in-Ends-clause-got
returns-in-Ends-clause-got g c =
    let took = rw c.in-Ends.is at c.in_ok-take_part.ensures in (
      rw (took.0.joined, took.0.rest) (whole_line _ _ c.loop-line.line.items _ (c.loop-line.invariant.same ∙ ap (before_known c.loop-line.line.items) c.in_ok-refill.ensures.bytes)
          c.loop-line.invariant.clean took.1),
      took.0.short,
    )

pub returns-in-Ends-clause-took : goal.returns-in-Ends-clause-took
returns-in-Ends-clause-took g c =
    let took = rw c.in-Ends.is at c.in_ok-take_part.ensures in
    rw (took.0.joined, took.0.rest) (took_line _ _ c.loop-line.line.items _ (c.loop-line.invariant.same ∙ ap (before_known c.loop-line.line.items) c.in_ok-refill.ensures.bytes) c.loop-line.invariant.clean took.1)

pub returns-in-Overlong-clause-got : goal.returns-in-Overlong-clause-got
returns-in-Overlong-clause-got g c =
    let long = rw c.in-Overlong.is at c.in_ok-take_part.ensures in
    long_line _ _ c.loop-line.line.items _ (c.loop-line.invariant.same ∙ ap (before_known c.loop-line.line.items) c.in_ok-refill.ensures.bytes) c.loop-line.invariant.clean long

pub loop-line-preserved : goal.loop-line-preserved
loop-line-preserved g c =
    let took = rw c.in-GoesOn.is at c.in_ok-take_part.ensures in
    record {
      same = rw (took.0.joined, took.0.rest) (goes_on _ _ c.loop-line.line.items _ (c.loop-line.invariant.same ∙ ap (before_known c.loop-line.line.items) c.in_ok-refill.ensures.bytes) took.1);
      clean = rw took.0.joined (clean_on c.loop-line.line.items c.refill.new.self c.loop-line.invariant.clean took.1);
      short = took.0.short;
      later = omega (arith, c.loop-line.invariant.later, c.refill.ensures.later);
    }
