use Rattle.std.proofs.Common.{◌≡◌, drop, length}
use Rattle.zonecfg_lex.specs.declared.grammar.Stage.TheVariants.{Start}
use Rattle.zonecfg_lex.specs.Value.{first_misfit}
use Rattle.zonecfg_lex.proofs.grammar.first_misfit.Given as goal

abbrev pub invariant-loop-token : goal.invariant-loop-token
invariant-loop-token l = first_misfit (length l.line) l.stage (drop l.token-index l.tokens) ≡ first_misfit (length l.line) Start l.tokens
