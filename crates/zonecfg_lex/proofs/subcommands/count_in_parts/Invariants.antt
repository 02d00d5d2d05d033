use Rattle.std.proofs.Common.{◌≡◌, ◌++◌, drop, take}
use Rattle.zonecfg_lex.specs.Subcommands.{counted_in_parts}
use Rattle.zonecfg_lex.specs.Tokens.{AreRisingFrom}
use Rattle.zonecfg_lex.proofs.subcommands.count_in_parts.Given as goal

-- those so far count from the begins of their parts, and the others as before
abbrev pub invariant-loop-token : goal.invariant-loop-token
invariant-loop-token l = record {
  all : take l.token-index l.tokens ++ counted_in_parts l.start (drop l.token-index l.tokens) ≡ counted_in_parts 0 l.initial.tokens;
  rising : AreRisingFrom l.start (drop l.token-index l.tokens);
}
