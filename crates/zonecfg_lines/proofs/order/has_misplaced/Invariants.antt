use Rattle.std.proofs.Common.{◌≡◌, ◌≤◌, ◌&&◌, ◌||◌, [], false, length}
use Rattle.zonecfg_lex.specs.Subcommands.{texts_from, ReadsInParts}
use Rattle.zonecfg_lines.specs.Order.{has_misplaced, is_any_left}
use Rattle.zonecfg_lines.proofs.order.has_misplaced.Given as goal

-- what is misplaced in the line is the one before what is left, where anything is left, or in what is left
abbrev pub invariant-loop-left : goal.invariant-loop-left
invariant-loop-left l = record {
  short : length l.left.text.now ≤ 4200;
  reads : ReadsInParts l.left.text.now [] l.left.tokens.now;
  same : let texts = texts_from false l.left.text.now l.left.tokens.now in
      ((l.ended && is_any_left texts) || has_misplaced texts) ≡ has_misplaced (texts_from false l.initial.left.text.now l.initial.left.tokens.now);
}

abbrev pub decreases-loop-left : goal.decreases-loop-left
decreases-loop-left l = length l.left.tokens.now
