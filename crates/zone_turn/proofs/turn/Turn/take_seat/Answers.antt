use Rattle.std.proofs.Common.{rules, ap, ◌≡◌, ◌∙◌, ◌∷◌, sym, subst, Some, None}
use Rattle.std.specs.Option.{IsSome}
use Rattle.atomic_table.specs.Table.{rest}
use Rattle.zone_turn.proofs.Steps.{draws}
use Rattle.zone_turn.proofs.Calls.{looks_as, took, missed_as, in_hand, same_value}
use Rattle.zone_turn.proofs.turn.Turn.take_seat.Goals as goal

pub fetch_add-ticket-requires : goal.fetch_add-ticket-requires
fetch_add-ticket-requires g c = (search rules, search rules, draws g.T.Storied.stands_for g.T.Storied.belongs_to _ _ _ c.requires.idle c.requires.lives)

pub loop-init : goal.loop-init
loop-init g c = let did = c.fetch_add-ticket.ensures in let d = did.2 in (did.0, (d.0, d.2, λ i. (d.1 i, (d.3 ∙ c.requires.empty) i)))

pub load-served-requires : goal.load-served-requires
load-served-requires g c = let i = c.loop.invariant in (search rules, search rules, looks_as g.T.Storied.stands_for g.T.Storied.belongs_to _ _ c.args.seat.now.me.0 _ i.1.0 c.requires.lives i.1.2)

pub loop-preserved : goal.loop-preserved
loop-preserved g c = let i = c.loop.invariant in let did = c.load-served.ensures in
    (did.0 ∙ i.0, (i.1.0, i.1.1, missed_as g.T.Storied.stands_for g.T.Storied.belongs_to c.load-served.result c.fetch_add-ticket.result c.args.seat.now.me.0 _ _ i.1.0 i.1.2 i.1.1 c.if-served-ticket.false did.2))

pub exchange-requires : goal.exchange-requires
exchange-requires g c = let i = c.loop.invariant in let did = c.load-served.ensures in
    let got = took g.T.Storied.stands_for g.T.Storied.belongs_to c.load-served.result c.fetch_add-ticket.result c.args.seat.now.me.0 _ _ i.1.0 i.1.2 i.1.1 c.if-served-ticket.true did.2 in
    (search rules, (Some got.0, got.3 ∙ ap (λ cs. (0, Some got.0) ∷ rest cs) (sym got.3)))

pub unwrap-requires : goal.unwrap-requires
unwrap-requires g c = let i = c.loop.invariant in let did = c.load-served.ensures in
    let got = took g.T.Storied.stands_for g.T.Storied.belongs_to c.load-served.result c.fetch_add-ticket.result c.args.seat.now.me.0 _ _ i.1.0 i.1.2 i.1.1 c.if-served-ticket.true did.2 in
    subst IsSome (sym (in_hand g.T.Storied.stands_for g.T.Storied.belongs_to c.load-served.new.seat.me.1 got.0 c.exchange.result got.3 c.exchange.ensures.2)) (search rules)

pub returns-then-served-ticket : goal.returns-then-served-ticket
returns-then-served-ticket g c = let i = c.loop.invariant in let did = c.load-served.ensures in
    let got = took g.T.Storied.stands_for g.T.Storied.belongs_to c.load-served.result c.fetch_add-ticket.result c.args.seat.now.me.0 _ _ i.1.0 i.1.2 i.1.1 c.if-served-ticket.true did.2 in
    let now = c.exchange.ensures.3 in
    let is : c.exchange.result ≡ Some got.0 = in_hand g.T.Storied.stands_for g.T.Storied.belongs_to c.load-served.new.seat.me.1 got.0 c.exchange.result got.3 c.exchange.ensures.2 in
    let out : c.exchange.result ≡ Some c.unwrap.result = search rules in
    let x : got.0 ≡ c.unwrap.result = same_value g.T.Storied.stands_for g.T.Storied.belongs_to got.0 c.unwrap.result (sym is ∙ out) in record {
      turn = c.exchange.ensures.0 ∙ (did.0 ∙ i.0);
      hand = ap (λ m. m.1) now ∙ ap (λ cs. (0, None) ∷ rest cs) got.3;
      out = (
        got.1,
        i.1.0,
        record {
          out = ap (λ m. m.0) now ∙ got.2;
          history = subst (λ y. g.T.Storied.stands_for y got.1) x got.4;
          mine = got.5;
          counted = got.6;
        },
      );
    }
