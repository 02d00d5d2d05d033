use Rattle.std.proofs.Common.{sym, ◌∙◌}
use Rattle.zone_cases.proofs.Words.{no_mount}
use Rattle.zone_cases.proofs.session.line_cases.dir_of.Goals as goal

pub returns-then-not-is_path-clause-none : goal.returns-then-not-is_path-clause-none
returns-then-not-is_path-clause-none c = λ none.
    no_mount c.args.word.now c.args.mounts.now.list (rw (← c.entries-entries.ensures.entries) c.entries-entries.ensures.kept) (sym c.is_path.ensures ∙ c.if-not-is_path.true)
