use Rattle.std.proofs.Common.{◌≡◌, length}
use Rattle.threads_tests.specs.Runs.{Numbered}
use Rattle.threads_tests.proofs.runs.scripts.Given as goal

abbrev pub invariant-loop-i : goal.invariant-loop-i
invariant-loop-i l = (length l.scripts.items ≡ l.i) × Numbered 1 l.scripts.items
