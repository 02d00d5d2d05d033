use Rattle.std.proofs.Common.{◌≡◌, length}
use Rattle.zone_cases.specs.Session.Lines.{word_after_flag, words}
use Rattle.zone_cases.proofs.session.words.word_after_flag.Given as goal

abbrev pub invariant-loop-word : goal.invariant-loop-word
invariant-loop-word l = word_after_flag (words l.text) ≡ word_after_flag (words l.initial.text)

abbrev pub decreases-loop-word : goal.decreases-loop-word
decreases-loop-word l = length (words l.text)
