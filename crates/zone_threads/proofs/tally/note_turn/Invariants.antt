use Rattle.std.proofs.Common.{◌≡◌, ◌<◌, ◌≤◌, ℕ, vec_len, slice_index_or}
use Rattle.zone_threads.specs.Scripts.{fresh, progress_one}
use Rattle.zone_threads.proofs.tally.note_turn.Given as goal

abbrev pub invariant-loop-i : goal.invariant-loop-i
invariant-loop-i l = (vec_len l.tally ≡ vec_len l.fn.tally)
    × ((s : ℕ) → s < l.i → slice_index_or l.tally.items s fresh ≡ progress_one s (slice_index_or l.fn.tally.items s fresh) l.place l.told)
    × ((s : ℕ) → l.i ≤ s → slice_index_or l.tally.items s fresh ≡ slice_index_or l.fn.tally.items s fresh)
