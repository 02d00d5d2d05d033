use Rattle.std.proofs.Common.{◌≡◌, ◌-◌, ◌<◌, ◌≤◌, ◌++◌, IfSome, None, drop, length}
use Rattle.zonecfg_lex.specs.declared.scope.Scope.TheVariants.{Between}
use Rattle.zonecfg_lex.specs.Tokens.{or_stray, out_of_word, result_map, tokens_from}
use Rattle.zonecfg_lex.proofs.lexer.cut.Given as goal

-- the tokens so far, and then those of what is left, are the tokens of the line
abbrev pub invariant-loop-at : goal.invariant-loop-at
invariant-loop-at l = record {
  within : l.at ≤ length l.line;
  stray : IfSome l.stray (λ place. place < l.at);
  between : out_of_word l.scope ≡ l.scope;
  rest : or_stray l.stray (result_map (λ ts. l.tokens.items ++ ts) (tokens_from None l.scope l.at (drop l.at l.line))) ≡ tokens_from None Between 0 l.line;
}

abbrev pub decreases-loop-at : goal.decreases-loop-at
decreases-loop-at l = length l.line - l.at
