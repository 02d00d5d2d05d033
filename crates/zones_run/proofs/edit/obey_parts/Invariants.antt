use Rattle.std.proofs.Common.{◌≡◌, ◌≤◌, [], false, length}
use Rattle.zonecfg_lex.specs.Subcommands.{texts_from, ReadsInParts}
use Rattle.zonecfg_scopes.specs.Turns.{in_turn}
use Rattle.zones_run.specs.Subcommands.{obeyed_as}
use Rattle.zones_run.proofs.edit.obey_parts.Given as goal

-- what the subcommands to come make of what is open is what all of them make of what was open
abbrev pub invariant-loop-command : goal.invariant-loop-command
invariant-loop-command l = record {
  short : length l.left.text.now ≤ 4200;
  reads : ReadsInParts l.left.text.now [] l.left.tokens.now;
  same : in_turn obeyed_as (texts_from false l.left.text.now l.left.tokens.now) l.editor.opened
      ≡ in_turn obeyed_as (texts_from false l.initial.left.text.now l.initial.left.tokens.now) l.fn.editor.opened;
}

abbrev pub decreases-loop-command : goal.decreases-loop-command
decreases-loop-command l = length (texts_from false l.left.text.now l.left.tokens.now)
