use Rattle.std.proofs.Common.{◌∙◌, sym}
use Rattle.priv_sets.proofs.Tokens.{comma_behind, words_from-last, words_from-more}
use Rattle.priv_sets.proofs.limit.token_end.Goals as goal

pub returns-in-Some-clause-token : goal.returns-in-Some-clause-token
returns-in-Some-clause-token c = (words_from-more c.args.text.now c.args.place c.in-Some.size c.requires (comma_behind c.args.text.now c.args.place ∙ sym c.in-Some.ensures)).1

pub returns-in-None-clause-token : goal.returns-in-None-clause-token
returns-in-None-clause-token c = words_from-last c.args.text.now c.args.place c.requires (comma_behind c.args.text.now c.args.place ∙ sym c.in-None.ensures)
