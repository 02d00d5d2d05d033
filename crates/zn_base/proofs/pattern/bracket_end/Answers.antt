use Rattle.std.proofs.Common.{◌+◌, sym, get_or}
use Rattle.zn_base.proofs.Patterns.{no_bracket}
use Rattle.zn_base.proofs.pattern.bracket_end.Goals as goal

pub returns-then-at-behind_closes-clause-end : goal.returns-then-at-behind_closes-clause-end
returns-then-at-behind_closes-clause-end c =
    sym (no_bracket c.args.pattern.now c.args.behind_closes (c.args.at + 1) (get_or c.args.pattern.now c.args.at 0) c.requires.closes c.if-at-behind_closes.true)
