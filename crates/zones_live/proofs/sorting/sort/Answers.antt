use Rattle.std.proofs.Common.{subst, sym, ◌∙◌}
use Rattle.std.proofs.lemmas.Iterator.Adapters.{YieldsList-from_vec}
use Rattle.std.proofs.lemmas.Iterator.Consumers.{YieldsList-end}
use Rattle.std.proofs.lemmas.List.{map-id}
use Rattle.zones_live.specs.Sorting.{Sorts}
use Rattle.zones_live.proofs.Sorting_laws.{sorts_none}
use Rattle.zones_live.proofs.sorting.sort.Goals as goal

pub loop-event-init : goal.loop-event-init
loop-event-init c = sorts_none _ c.new.ensures.items c.new-2.ensures.items

pub loop-event-preserved : goal.loop-event-preserved
loop-event-preserved c = c.in_ok-put.ensures c.loop-event.yielded c.loop-event.invariant

pub returns : goal.returns
returns c =
    let start = c.into_iter-event-iterator.ensures.into_iter_gives in
    let all = YieldsList-end (YieldsList-from_vec c.args.events.items start.0 (start.1 ∙ c.args.events.ok.0)) c.loop-event.yielded c.loop-event.event-iterator c.loop-event.yielded_by c.next.result c.next.new.self c.in-None.is c.next.ensures.steps in
    subst (λ events. Sorts events c.loop-event.sorted) (sym (map-id c.loop-event.yielded) ∙ all.0) c.loop-event.invariant
