use Rattle.std.proofs.Common.{rules, ◌≡◌, ap, sym, subst, Some, ◌∙◌}
use Rattle.std.specs.Option.{IsSome}
use Rattle.zone_turn.specs.Calls.{Closes}
use Rattle.zone_turn.proofs.Calls.{closes, same_value}
use Rattle.zone_turn.proofs.turn.Turn.close.Goals as goal

pub unwrap-part-requires : goal.unwrap-part-requires
unwrap-part-requires g c =
    let end = closes g.T.Storied.stands_for g.T.Storied.belongs_to _ c.first.inside.seat.me.0 c.args.first.knows _ _ c.take.result (ap (λ h. h.knows) c.first.view_is) c.requires.idle c.requires.first c.requires.all_back c.close_with-closed.ensures.values.2 c.take.ensures.value in
    subst IsSome (sym end.1) (search rules)

pub returns : goal.returns
returns g c =
    let end = closes g.T.Storied.stands_for g.T.Storied.belongs_to _ c.first.inside.seat.me.0 c.args.first.knows _ _ c.take.result (ap (λ h. h.knows) c.first.view_is) c.requires.idle c.requires.first c.requires.all_back c.close_with-closed.ensures.values.2 c.take.ensures.value in
    let out : c.take.result ≡ Some c.unwrap-part.result = search rules in
    let x = same_value g.T.Storied.stands_for g.T.Storied.belongs_to end.0 c.unwrap-part.result (sym end.1 ∙ out) in
    (end.2, subst (λ y. Closes g.T.Storied.stands_for g.T.Storied.belongs_to end.2 y c.args.first.knows) x end.3)
