use Rattle.std.proofs.Common.{◌≡◌, ◌++◌, drop}
use Rattle.std.specs.Option.{option_to_list}
use Rattle.zonecfg_lex.specs.Value.{given_texts, paired}
use Rattle.zonecfg_lex.proofs.grammar.pairs.Given as goal

abbrev pub invariant-loop-token : goal.invariant-loop-token
invariant-loop-token l = l.pairs ++ paired (option_to_list l.waiting ++ given_texts l.line (drop l.token-index l.tokens)) ≡ paired (given_texts l.line l.tokens)
