use Rattle.std.proofs.Common.{◌≡◌, ◌∙◌, ap, length, rules, sym, tests, true}
use Rattle.std.specs.Prelude.{bytes_eq}
use Rattle.std.specs.List.{list_any, slice_split}
use Rattle.std.proofs.lemmas.Iterator.Consumers.{YieldsList-end, YieldsList-turn}
use Rattle.std.proofs.lemmas.Iterator.Splits.{YieldsList-from_slice_split}
use Rattle.std.proofs.lemmas.List.Folds.{list_any_at}
use Rattle.loopback_mounts.specs.Types.{is_comma}
use Rattle.loopback_mounts.proofs.types.is_among.Goals as goal

pub returns-then-eq : goal.returns-then-eq
returns-then-eq c =
    let t = YieldsList-turn (YieldsList-from_slice_split _ is_comma c.args.items.now (cc) (cc) (cc) (λ x b q k. search (rules, tests))) c.loop-item.yielded _ c.loop-item.yielded_by _ _ c.in-Some.item c.in-Some.is c.next.ensures.steps in
    let same : bytes_eq c.args.fstype.now c.in-Some.item.now ≡ true = sym c.eq.ensures ∙ c.if-eq.true in
    sym (list_any_at (bytes_eq c.args.fstype.now) (slice_split is_comma c.args.items.now) (length c.loop-item.yielded) c.in-Some.item.now t.0 (ap (bytes_eq c.args.fstype.now) (sym t.1) ∙ same))

pub returns : goal.returns
returns c =
    let t = YieldsList-end (YieldsList-from_slice_split _ is_comma c.args.items.now (cc) (cc) (cc) (λ x b q k. search (rules, tests))) c.loop-item.yielded _ c.loop-item.yielded_by _ _ c.in-None.is c.next.ensures.steps in
    sym c.loop-item.invariant ∙ ap (list_any (bytes_eq c.args.fstype.now)) t.0
