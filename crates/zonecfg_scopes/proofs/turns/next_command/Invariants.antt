use Rattle.std.proofs.Common.{◌≡◌, ◌≤◌, [], false, length}
use Rattle.zonecfg_lex.specs.Subcommands.{texts_from, ReadsInParts}
use Rattle.zonecfg_scopes.proofs.turns.next_command.Given as goal

-- what was passed over holds no token
abbrev pub invariant-loop-alloc : goal.invariant-loop-alloc
invariant-loop-alloc l = record {
  short : length l.left.text.now ≤ 4200;
  reads : ReadsInParts l.left.text.now [] l.left.tokens.now;
  texts : texts_from false l.left.text.now l.left.tokens.now ≡ texts_from false l.initial.left.text.now l.initial.left.tokens.now;
}

abbrev pub decreases-loop-alloc : goal.decreases-loop-alloc
decreases-loop-alloc l = length l.left.tokens.now
