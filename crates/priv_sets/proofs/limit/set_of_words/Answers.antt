use Rattle.std.proofs.Common.{◌∙◌, ◌+◌, Ok, ap, arith, sym}
use Rattle.priv_sets.specs.Limit.{rules_from, set_of_words, words_from}
use Rattle.priv_sets.proofs.Tokens.{after, after_nothing, turn_bad, turn_last, turn_more}
use Rattle.priv_sets.proofs.limit.set_of_words.Goals as goal

pub loop-rule-init : goal.loop-rule-init
unfolding set_of_words
loop-rule-init c = record { same = ap (λ set. after set (rules_from 0 (words_from c.args.text.now 0))) c.none-set.ensures ∙ after_nothing _; within = omega arith }

pub returns-in_default : goal.returns-in_default
returns-in_default c =
    sym (turn_bad c.loop-rule.set c.args.text.now c.loop-rule.place c.token_end-end.result c.token_end-end.ensures.after c.token_end-end.ensures.within c.token_end-end.ensures.token (sym c.rule_of.ensures ∙ c.in_default.is))
    ∙ c.loop-rule.invariant.same

pub returns-then-end-text : goal.returns-then-end-text
returns-then-end-text c =
    ap Ok c.applied-set.ensures
    ∙ sym (turn_last c.loop-rule.set c.args.text.now c.loop-rule.place c.token_end-end.result c.in-Some.rule c.token_end-end.ensures.after c.if-end-text.true c.token_end-end.ensures.token (sym c.rule_of.ensures ∙ c.in-Some.is))
    ∙ c.loop-rule.invariant.same

pub loop-rule-preserved : goal.loop-rule-preserved
loop-rule-preserved c =
    record {
      same =
          ap (λ set. after set (rules_from (c.token_end-end.result + 1) (words_from c.args.text.now (c.token_end-end.result + 1)))) c.applied-set.ensures
          ∙ sym (turn_more c.loop-rule.set c.args.text.now c.loop-rule.place c.token_end-end.result c.in-Some.rule c.token_end-end.ensures.after (omega arith) c.token_end-end.ensures.token (sym c.rule_of.ensures ∙ c.in-Some.is))
          ∙ c.loop-rule.invariant.same;
      within = omega arith;
    }
