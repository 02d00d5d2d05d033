use Rattle.std.proofs.Common.{◌≡◌, ◌≤◌, ◌++◌, [], false, length}
use Rattle.zonecfg_lex.specs.Subcommands.{texts_from, ReadsInParts}
use Rattle.zonecfg_lines.specs.Runs.{base_of, in_turn}
use Rattle.zonecfg_lines.proofs.line.obey_parts.Given as goal

-- the run of all subcommands ends as that of those to come does, and its lines are those that were told and theirs
abbrev pub invariant-loop-command : goal.invariant-loop-command
invariant-loop-command l =
    let all = in_turn (base_of l.stored) l.brands (texts_from false l.initial.left.text.now l.initial.left.tokens.now) l.fn.editor in
    let rest = in_turn (base_of l.stored) l.brands (texts_from false l.left.text.now l.left.tokens.now) l.editor in
    record {
      short : length l.left.text.now ≤ 4200;
      reads : ReadsInParts l.left.text.now [] l.left.tokens.now;
      edited : all.edited ≡ rest.edited;
      lines : l.fn.told ++ all.told ≡ l.told ++ rest.told;
      ended : all.end ≡ rest.end;
      name : l.editor.name ≡ l.fn.editor.name;
    }

abbrev pub decreases-loop-command : goal.decreases-loop-command
decreases-loop-command l = length (texts_from false l.left.text.now l.left.tokens.now)
