use Rattle.std.proofs.Common.{◌≡◌, ◌++◌, drop}
use Rattle.zonecfg_lex.specs.Value.{given_texts}
use Rattle.zonecfg_lex.proofs.grammar.texts.Given as goal

abbrev pub invariant-loop-token : goal.invariant-loop-token
invariant-loop-token l = l.texts ++ given_texts l.line (drop l.token-index l.tokens) ≡ given_texts l.line l.tokens
