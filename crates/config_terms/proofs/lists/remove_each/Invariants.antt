use Rattle.std.proofs.Common.{◌≡◌, drop}
use Rattle.config_terms.specs.Edits.{without_each}
use Rattle.config_terms.proofs.lists.remove_each.Given as goal

abbrev pub invariant-loop-item : goal.invariant-loop-item
invariant-loop-item g l =
    without_each g.T.PartialEq.eq l.items l.list ≡ without_each g.T.PartialEq.eq (drop l.item-index l.items) l.kept
