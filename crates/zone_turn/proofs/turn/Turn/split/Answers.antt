use Rattle.std.proofs.Common.{rules, ap}
use Rattle.zone_turn.proofs.Calls.{splits_as}
use Rattle.zone_turn.proofs.turn.Turn.split.Goals as goal

pub split_seat-seat-requires : goal.split_seat-seat-requires
split_seat-seat-requires g c = (search rules, search rules, splits_as g.T.Storied.stands_for g.T.Storied.belongs_to _ c.first.inside.seat.me.0 c.args.first.now.knows (ap (λ h. h.knows) c.first.view_is) c.requires.idle c.requires.first c.requires.few)
