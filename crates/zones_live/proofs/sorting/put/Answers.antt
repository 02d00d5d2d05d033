use Rattle.std.proofs.Common.{refl}
use Rattle.zones_live.proofs.Sorting_laws.{on_three, sorts_declared, sorts_other, sorts_typed}
use Rattle.zones_live.proofs.sorting.put.Goals as goal

pub returns-in-System : goal.returns-in-System
returns-in-System c = λ events. sorts_declared events c.args.event c.in-System.what c.args.sorted.now _ c.in-System.is c.in_ok-push-in-System.ensures.items refl

pub returns-in-Session : goal.returns-in-Session
returns-in-Session c = on_three c.put_typed.result _ _ _ _
    (λ typed differ sessions events. sorts_typed events c.args.event c.in-Session.number c.in-Session.text c.args.sorted.now _ c.in-Session.is refl typed differ sessions)
    c.put_typed.ensures.typed c.put_typed.ensures.differ c.put_typed.ensures.sessions

pub returns : goal.returns
returns c = λ events. sorts_other events c.args.event c.args.sorted.now c.in_default.not-System c.in_default.not-Session
