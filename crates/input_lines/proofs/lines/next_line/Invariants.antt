use Rattle.std.proofs.Common.{◌≡◌, ◌-◌, ◌≤◌, false, length}
use Rattle.zn_io.specs.Streams.{before_known}
use Rattle.input_lines.specs.Lines.{has_newline}
use Rattle.input_lines.proofs.lines.next_line.Given as goal

-- the line so far, what is ahead and what the source has left are all that there was
abbrev pub invariant-loop-line : goal.invariant-loop-line
invariant-loop-line g l =
    let left = g.S.Source.left in
    record {
      same : before_known l.fn.ahead (left l.fn.source) ≡ before_known l.line.items (before_known l.ahead (left l.source));
      clean : has_newline l.line.items ≡ false;
      short : length l.line.items ≤ 4096;
      later : g.S.Source.faults l.fn.source ≤ g.S.Source.faults l.source;
    }

abbrev pub decreases-loop-line : goal.decreases-loop-line
decreases-loop-line g l = 4096 - length l.line.items
