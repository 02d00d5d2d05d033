use Rattle.std.proofs.Common.{◌≡◌, ℕ, []}
use Rattle.zone_turn.specs.Passes.{waits_for}
use Rattle.zone_turn.specs.Rule.{in_word}
use Rattle.zone_turn.proofs.turn.Turn.take_seat.Given as goal

abbrev pub invariant-loop : goal.invariant-loop
invariant-loop g l = (l.seat.table_id ≡ l.fn.seat.table_id) × ((t : ℕ) × (in_word t ≡ l.ticket) × (l.seat.me ≡ (waits_for t l.fn.seat.me.0, [])))
