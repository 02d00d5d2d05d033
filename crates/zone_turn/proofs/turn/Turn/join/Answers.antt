use Rattle.std.proofs.Common.{rules, ap}
use Rattle.zone_turn.proofs.Calls.{joins_as}
use Rattle.zone_turn.proofs.turn.Turn.join.Goals as goal

pub join_seat-requires : goal.join_seat-requires
join_seat-requires g c = (search rules, search rules, search rules, search rules, joins_as g.T.Storied.stands_for g.T.Storied.belongs_to _ c.first.inside.seat.me.0 c.args.first.now.knows _ c.other.inside.seat.me.0 c.args.other.knows (ap (λ h. h.knows) c.first.view_is) (ap (λ h. h.knows) c.other.view_is) c.requires.idle c.requires.idle_too c.requires.first c.other.invariant.lives)
