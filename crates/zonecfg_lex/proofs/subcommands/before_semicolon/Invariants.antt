use Rattle.std.proofs.Common.{◌≡◌, ◌+◌, drop}
use Rattle.zonecfg_lex.specs.Subcommands.{before_semi}
use Rattle.zonecfg_lex.proofs.subcommands.before_semicolon.Given as goal

abbrev pub invariant-loop-count : goal.invariant-loop-count
invariant-loop-count l = l.count + before_semi (drop l.count l.tokens) ≡ before_semi l.tokens
