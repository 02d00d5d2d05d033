use Rattle.std.proofs.Common.{◌≡◌, ◌++◌, length}
use Rattle.zone_cases.specs.Session.Lines.{joined, words}
use Rattle.zone_cases.proofs.Words.{spaced}
use Rattle.zone_cases.proofs.session.line_cases.joined.Given as goal

abbrev pub invariant-loop-word : goal.invariant-loop-word
invariant-loop-word l = l.out.items ++ spaced (words l.rest) ≡ joined (words l.text)

abbrev pub decreases-loop-word : goal.decreases-loop-word
decreases-loop-word l = length (words l.rest)
