use Rattle.std.proofs.Common.{◌≡◌, ◌<◌, ◌≤◌, ℕ, length}
use Rattle.std.specs.Prelude.{slice_index_or}
use Rattle.session_runs.specs.Far.{far_after}
use Rattle.session_runs.specs.declared.far.Far.{Far}
use Rattle.session_runs.proofs.far.note_turn.Given as goal

-- those before this one are noted, and the others are as they were
abbrev pub invariant-loop-one : goal.invariant-loop-one
invariant-loop-one l = record {
  len : length l.one-items ≡ length l.fn.far.items;
  noted : (i : ℕ) (f : Far) → i < l.one-index → slice_index_or l.one-items i f ≡ far_after l.entry (slice_index_or l.fn.far.items i f);
  others : (i : ℕ) (f : Far) → l.one-index ≤ i → slice_index_or l.one-items i f ≡ slice_index_or l.fn.far.items i f;
}
