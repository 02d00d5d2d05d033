use Rattle.std.proofs.Common.{rules, ◌-◌, ◌++◌, ap, drop, subst, sym}
use Rattle.zone_threads.specs.Records.{Stands}
use Rattle.zone_threads.proofs.Steps.{kept_shared, quiet}
use Rattle.zone_threads.proofs.step.note_log.Goals as goal

pub returns-clause-stands : goal.returns-clause-stands
returns-clause-stands g c start h stands mine logged =
    let D = g.M.Zoned.machine in
    let log = c.args.log.now in
    let items = log.entries.items in
    let old = c.args.part.now in
    let new = c.put_run.new.part in
    let kept = kept_shared D g.met.M.Machine.laws start g.J.Start.scripts log.place log.given items log.cell log.marked old.shared old.tally.items c.note_rest.new.tally.items old.order.items h
    stands mine logged c.note_rest.ensures.each c.note_rest.ensures.len new.shared (ap (λ p. p.shared) c.put_run.ensures.same) in
    let q = quiet D g.met.M.Machine.laws start g.J.Start.scripts log.place log.given items log.cell log.marked old.shared old.tally.items c.note_rest.new.tally.items old.order.items h
    stands mine logged c.note_rest.ensures.each c.note_rest.ensures.len new.shared new.order.items (c.len.result - log.given) kept (search rules) c.put_run.ensures.order in
    subst (λ ts. Stands D start g.J.Start.scripts new.shared ts new.order.items (h ++ drop log.given items)) (sym (ap (λ p. p.tally.items) c.put_run.ensures.same)) q.0
