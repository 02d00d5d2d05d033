use Rattle.std.proofs.Common.{◌≡◌, [], length}
use Rattle.zone_threads.specs.Ends.{IsOpening}
use Rattle.threads_tests.specs.Toys.{toy}
use Rattle.threads_tests.proofs.runs.cells.Given as goal

abbrev pub invariant-loop : goal.invariant-loop
invariant-loop l = (length l.cells.items ≡ l.counter) × IsOpening toy (λ s. s ≡ []) l.cells.items
