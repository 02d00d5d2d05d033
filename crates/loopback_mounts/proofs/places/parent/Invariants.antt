use Rattle.std.proofs.Common.{◌≡◌, ◌+◌, ◌<◌, drop, length, not, true}
use Rattle.std.specs.List.{list_all}
use Rattle.zn_base.specs.Path.{is_slash}
use Rattle.loopback_mounts.proofs.places.parent.Given as goal

abbrev pub invariant-loop-end : goal.invariant-loop-end
invariant-loop-end l = (l.end < length l.path) × (list_all (λ b. not (is_slash b)) (drop (l.end + 1) l.path) ≡ true)

abbrev pub decreases-loop-end : goal.decreases-loop-end
decreases-loop-end l = l.end
