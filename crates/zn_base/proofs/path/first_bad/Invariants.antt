use Rattle.std.proofs.Common.{◌≡◌, ◌+◌, ◌≤◌, length}
use Rattle.std.specs.List.{slice_split}
use Rattle.zn_base.specs.Path.{first_bad, is_slash}
use Rattle.zn_base.proofs.path.first_bad.Given as goal

-- the search over the rest, from its place on, is the whole search
abbrev pub invariant-loop-end : goal.invariant-loop-end
invariant-loop-end l = record {
  same : first_bad l.place (slice_split is_slash l.rest) ≡ first_bad 1 (slice_split is_slash l.components);
  room : l.place + length l.rest ≤ 1 + length l.components;
}

abbrev pub decreases-loop-end : goal.decreases-loop-end
decreases-loop-end l = length l.rest
