use Rattle.std.proofs.Common.{◌≡◌, ◌-◌, ◌≤◌, length}
use Rattle.priv_sets.specs.Limit.{rules_from, set_of_words, words_from}
use Rattle.priv_sets.proofs.Tokens.{after}
use Rattle.priv_sets.proofs.limit.set_of_words.Given as goal

-- what the tokens that are left make of the set is what all make of the empty one
abbrev pub invariant-loop-rule : goal.invariant-loop-rule
invariant-loop-rule l = record {
  same : after l.set (rules_from l.place (words_from l.text l.place)) ≡ set_of_words (words_from l.text 0);
  within : l.place ≤ length l.text;
}

abbrev pub decreases-loop-rule : goal.decreases-loop-rule
decreases-loop-rule l = length l.text - l.place
