use Rattle.std.proofs.Common.{◌≡◌, ◌+◌, [], length, true, vec_capacity, vec_len}
use Rattle.zone_turn.specs.Passes.{is_idle}
use Rattle.zone_turn.specs.declared.views.Role.TheVariants.{First}
use Rattle.zone_threads.specs.Ends.{roster}
use Rattle.zone_threads.proofs.end.deal.Given as goal

abbrev pub invariant-loop-cell : goal.invariant-loop-cell
invariant-loop-cell g l = (l.first.turn ≡ g.K.Place.turn) × (is_idle l.first.knows ≡ true) × (l.first.knows.list ≡ []) × (l.first.knows.role ≡ First (roster (l.place + 1) (vec_len l.zones) [])) × (vec_len l.zones ≡ l.place) × (vec_capacity l.zones ≡ vec_capacity l.initial.zones) × (length l.yielded ≡ l.place)
