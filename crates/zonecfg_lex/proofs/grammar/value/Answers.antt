use Rattle.std.proofs.Common.{inr, sym, ◌∙◌}
use Rattle.zonecfg_lex.proofs.MadeValues.{first_and_rest, value_of-fitting, value_of-misfit}
use Rattle.zonecfg_lex.proofs.grammar.value.Goals as goal

pub returns-in-Some : goal.returns-in-Some
returns-in-Some c = inr (value_of-misfit c.args.line.now c.args.tokens.now c.in-Some.place (sym c.first_misfit.ensures ∙ c.in-Some.is))

pub returns : goal.returns
returns c =
    let fits = value_of-fitting c.args.line.now c.args.tokens.now _ (sym c.first_misfit.ensures ∙ c.in_default.is) (first_and_rest c.args.tokens.now _ c.in-len1-up.len_at_least) in
    rw fits c.made_value.ensures
