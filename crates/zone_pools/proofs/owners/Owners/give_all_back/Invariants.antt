use Rattle.std.proofs.Common.{◌≡◌, ◌≤◌, None, take}
use Rattle.std.specs.Prelude.{if◌then◌else◌}
use Rattle.std.specs.List.{list_any}
use Rattle.zone_pools.specs.Owners.{owner}
use Rattle.zone_pools.proofs.owners.Owners.give_all_back.Given as goal

abbrev pub invariant-loop-thing : goal.invariant-loop-thing
invariant-loop-thing g l =
    ((k : g.row.K.Denot) → owner g.K.PartialEq.eq l.self k ≡ (if list_any (λ thing. g.K.PartialEq.eq (g.T.Keyed.key_of thing) k) (take l.thing-index l.things) then None else owner g.K.PartialEq.eq l.initial.self k))
    × (l.initial.self.room ≤ l.self.room)
