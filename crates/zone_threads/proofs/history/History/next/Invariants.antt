use Rattle.std.proofs.Common.{◌≡◌, ◌++◌, length, replicate}
use Rattle.zone_threads.specs.Joined.{joined, tail_of}
use Rattle.zone_threads.specs.Records.{spread}
use Rattle.zone_threads.proofs.history.History.next.Given as goal

-- nothing is taken yet
abbrev pub invariant-loop-entry : goal.invariant-loop-entry
invariant-loop-entry g l = joined (replicate l.self-inside.run.1 l.self-inside.run.0 ++ spread l.self-inside.order.items) (tail_of l.self-inside.tails.items) ≡ l.fn.self

abbrev pub decreases-loop-entry : goal.decreases-loop-entry
decreases-loop-entry g l = length l.self-inside.order.items
