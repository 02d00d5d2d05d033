use Rattle.std.proofs.Common.{◌≡◌, ◌≢◌, ◌<◌, ℕ, slice_index_or}
use Rattle.zone_threads.specs.declared.history.Tail.{Tail}
use Rattle.zone_threads.proofs.history.next_of.Given as goal

abbrev pub invariant-loop-i : goal.invariant-loop-i
invariant-loop-i g l = (l.tails ≡ l.fn.tails) × ((j : ℕ) (d : Tail g.row.E.Denot) → j < l.i → (slice_index_or l.tails.items j d).place ≢ l.place)
