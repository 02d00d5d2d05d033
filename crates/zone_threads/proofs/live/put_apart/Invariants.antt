use Rattle.std.proofs.Common.{◌≡◌, map, vec_capacity}
use Rattle.zone_threads.specs.Ends.{back, tail}
use Rattle.zone_threads.proofs.live.put_apart.Given as goal

abbrev pub invariant-loop-log : goal.invariant-loop-log
invariant-loop-log g l = (l.cells.items ≡ map back l.yielded) × (vec_capacity l.cells ≡ vec_capacity l.initial.cells) × (l.tails.items ≡ map tail l.yielded) × (vec_capacity l.tails ≡ vec_capacity l.initial.tails)
