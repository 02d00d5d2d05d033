use Rattle.std.proofs.Common.{ℕ, ◌<◌, length, slice_index_or}
use Rattle.zone_threads.specs.Ends.{Finished}
use Rattle.zone_threads.specs.declared.run.Script.{Script}
use Rattle.zone_threads.proofs.live.all_done.Given as goal

abbrev pub invariant-loop-i : goal.invariant-loop-i
invariant-loop-i g l = (k : ℕ) (d : Script g.row.L.Denot) → k < l.i → Finished l.tally (slice_index_or l.scripts k d).session (length (slice_index_or l.scripts k d).lines.items)
