use Rattle.std.proofs.Common.{◌≡◌, ◌+◌, ◌≤◌, ℕ, [], true, vec_len, vec_capacity}
use Rattle.std.specs.List.{All}
use Rattle.zone_turn.specs.Passes.{is_first, is_idle}
use Rattle.zone_turn.specs.declared.views.Role.TheVariants.{First}
use Rattle.zone_threads.specs.Ends.{Gathered, IsLeft, roster}
use Rattle.zone_threads.specs.declared.zone.Log.{Log}
use Rattle.zone_threads.proofs.end.gather.Given as goal

abbrev pub invariant-loop-zone : goal.invariant-loop-zone
invariant-loop-zone g l = (l.first.turn ≡ g.K.Place.turn) × (is_idle l.first.knows ≡ true) × (is_first l.first.knows ≡ true) × (l.first.knows.list ≡ l.initial.first.knows.list)
    × ((made : ℕ) → l.initial.first.knows.role ≡ First (roster made (vec_len l.initial.zones) []) → Gathered l.first.knows.role made (vec_len l.zones) l.logs.items)
    × (vec_len l.logs + vec_len l.zones ≡ vec_len l.initial.zones) × (vec_capacity l.logs ≡ vec_capacity l.initial.logs) × All (IsLeft g.M.Zoned.machine g.J.Start.starts) l.logs.items × All (λ (x : Log g.row.M-Cell.Denot g.row.M-Entry.Denot). x.place ≤ g.N.Outset.zones) l.logs.items

abbrev pub decreases-loop-zone : goal.decreases-loop-zone
decreases-loop-zone g l = vec_len l.zones
