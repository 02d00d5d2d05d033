use Rattle.std.proofs.Common.{refl, rules}
use Rattle.zone_turn.proofs.Calls.{gives_as, gave_as}
use Rattle.zone_turn.proofs.turn.Turn.give_seat.Goals as goal

pub fetch_add-requires : goal.fetch_add-requires
fetch_add-requires g c =
    let r = c.requires in
    (search rules, search rules, gives_as g.T.Storied.stands_for g.T.Storied.belongs_to _ _ c.args.seat.now.me c.exchange-empty.new.seat.me r.out.0 r.out.1 g.B.Batch.entries g.B.Batch.entries c.args.shared (search rules) refl r.out.2 r.lives r.hand c.exchange-empty.ensures.3 r.out.3 r.own)

pub returns-clause-idle : goal.returns-clause-idle
returns-clause-idle g c =
    let r = c.requires in
    gave_as g.T.Storied.stands_for g.T.Storied.belongs_to c.args.seat.now.me c.exchange-empty.new.seat.me c.fetch_add.new.seat.me g.B.Batch.entries g.B.Batch.entries c.args.shared refl r.hand c.exchange-empty.ensures.3 c.fetch_add.ensures.2
