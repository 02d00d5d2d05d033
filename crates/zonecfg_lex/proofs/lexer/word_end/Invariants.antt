use Rattle.std.proofs.Common.{◌+◌, ◌-◌, ◌<◌, ◌≤◌, drop, length}
use Rattle.zonecfg_lex.specs.Tokens.{in_word}
use Rattle.zonecfg_lex.proofs.Words.{Letters}
use Rattle.zonecfg_lex.proofs.lexer.word_end.Given as goal

abbrev pub invariant-loop-end : goal.invariant-loop-end
invariant-loop-end l = record {
  after : l.start < l.end;
  within : l.end ≤ length l.line;
  words : Letters (in_word l.fn.scope) (l.end - (l.start + 1)) (drop (l.start + 1) l.line);
}

abbrev pub decreases-loop-end : goal.decreases-loop-end
decreases-loop-end l = length l.line - l.end
