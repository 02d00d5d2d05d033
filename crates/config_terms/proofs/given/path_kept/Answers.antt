use Rattle.std.proofs.Common.{sym, ◌∙◌}
use Rattle.config_terms.proofs.Paths.{is_path_kept}
use Rattle.config_terms.proofs.given.path_kept.Goals as goal

pub of-requires : goal.of-requires
of-requires c = is_path_kept c.args.text.now c.requires (sym c.is_empty.ensures ∙ c.if-is_empty.false)
