use Rattle.std.proofs.Common.{ap, sym, ◌∙◌}
use Rattle.std.proofs.lemmas.List.{take_rest}
use Rattle.zonecfg_scopes.specs.Words.{value_missed}
use Rattle.zonecfg_scopes.proofs.Reading.{first_value_missed-skipped}
use Rattle.zonecfg_scopes.proofs.words.first_value_missed.Goals as goal

pub loop-at-preserved : goal.loop-at-preserved
loop-at-preserved c =
    let missed = ap (value_missed c.args.end) (sym (take_rest c.args.tokens.now c.loop-at.at)) ∙ sym c.value_missed.ensures ∙ c.in_default.is in
    first_value_missed-skipped c.args.end c.args.tokens.now c.loop-at.at c.loop-at-test.true missed ∙ c.loop-at.invariant
