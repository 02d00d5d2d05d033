use Rattle.std.proofs.Common.{◌≡◌, ◌+◌, ◌-◌, ◌<◌, ◌≤◌, IfSome, Some, drop, length}
use Rattle.zonecfg_lex.specs.declared.scope.Scope.{Scope}
use Rattle.zonecfg_lex.specs.Tokens.{or_stray, tokens_from}
use Rattle.zonecfg_lex.proofs.lexer.quote_end.Given as goal

abbrev pub invariant-loop-end : goal.invariant-loop-end
invariant-loop-end l = record {
  after : l.start < l.end;
  within : l.end ≤ length l.line;
  stray : IfSome l.stray (λ place. (l.start < place) × (place < l.end));
  found : (scope : Scope) → tokens_from (Some l.start) scope (l.start + 1) (drop (l.start + 1) l.line) ≡ or_stray l.stray (tokens_from (Some l.start) scope l.end (drop l.end l.line));
}

abbrev pub decreases-loop-end : goal.decreases-loop-end
decreases-loop-end l = length l.line - l.end
