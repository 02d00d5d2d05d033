use Rattle.std.proofs.Common.{sym}
use Rattle.config_terms.proofs.Alone.{first_is_only, wants_key}
use Rattle.config_terms.proofs.matches.keyed_match.Goals as goal

pub returns-in-Some-clause-answer : goal.returns-in-Some-clause-answer
returns-in-Some-clause-answer g c =
    first_is_only _ (λ e. g.T.Entry.shown e c.args.key) c.args.text.now (λ e h. wants_key _ _ h) c.args.entries.now _ c.requires (sym c.in-Some.ensures)
