use Rattle.std.proofs.Common.{◌≡◌, ◌++◌, ◌∷◌, ◌-◌, [], ap, drop, false, rules, subst, sym, true, ◌∙◌}
use Rattle.zone_threads.specs.Records.{Stands}
use Rattle.zone_threads.proofs.Bools.{apart}
use Rattle.zone_threads.proofs.Steps.{added, kept_shared, left_shared, mine_more, noted_rest, quiet, quiet_cell}
use Rattle.zone_threads.proofs.step.act.Goals.{else-not-is_sound-2, then-not-is_sound-2}
use Rattle.zone_threads.proofs.step.act.Goals as goal

pub returns-then-marked-clause-stands : goal.returns-then-marked-clause-stands
returns-then-marked-clause-stands g c start h stands mine logged =
    let D = g.M.Zoned.machine in
    let log = c.args.log.now.items in
    let old = c.args.part.now in
    let new = c.put_run.new.part in
    let noting = noted_rest D c.args.place c.args.given log c.deref.result.now old.tally.items c.note_some.new.tally.items c.deref.ensures.value c.note_some.ensures.each in
    let kept = kept_shared D g.met.M.Machine.laws start g.J.Start.scripts c.args.place c.args.given log c.args.cell.now c.args.marked.now old.shared old.tally.items c.note_some.new.tally.items old.order.items h
    stands mine logged noting c.note_some.ensures.len new.shared (ap (λ p. p.shared) c.put_run.ensures.same) in
    let q = quiet D g.met.M.Machine.laws start g.J.Start.scripts c.args.place c.args.given log c.args.cell.now c.args.marked.now old.shared old.tally.items c.note_some.new.tally.items old.order.items h
    stands mine logged noting c.note_some.ensures.len new.shared new.order.items (c.len.result - c.args.given) kept (search rules) c.put_run.ensures.order in
    (subst (λ ts. Stands D start g.J.Start.scripts new.shared ts new.order.items (h ++ drop c.args.given log)) (sym (ap (λ p. p.tally.items) c.put_run.ensures.same)) q.0, q.1, logged.stands)

pub returns-in-Ok-clause-stands : goal.returns-in-Ok-clause-stands
returns-in-Ok-clause-stands g c start h stands mine logged =
    let D = g.M.Zoned.machine in
    let log = c.args.log.now.items in
    let old = c.args.part.now in
    let mid = c.attempt.new.part in
    let new = c.put_run-in-Ok.new.part in
    let log' = c.push_reserved.new.self.items in
    let noting = noted_rest D c.args.place c.args.given log c.deref.result.now old.tally.items c.note_some.new.tally.items c.deref.ensures.value c.note_some.ensures.each in
    let q = added D g.met.M.Machine.laws start g.J.Start.scripts c.args.place c.args.given log c.args.cell.now c.args.marked.now old.shared old.tally.items c.note_some.new.tally.items old.order.items h
    stands mine logged noting c.note_some.ensures.len mid.shared mid.tally.items new.order.items (c.len-in-Ok.result - c.args.given) c.in-Ok.entry c.attempt.new.cell log'
    c.if-marked.false c.in-Ok.ensures.did c.attempt.ensures.wide c.push_reserved.ensures.items (search rules) (c.put_run-in-Ok.ensures.order ∙ ap (λ v. v.items ++ (c.args.place, c.len-in-Ok.result - c.args.given) ∷ []) c.attempt.ensures.order) in (
      subst (λ ts. Stands D start g.J.Start.scripts new.shared ts new.order.items (h ++ drop c.args.given log')) (sym (ap (λ p. p.tally.items) c.put_run-in-Ok.ensures.same))
          (subst (λ m. Stands D start g.J.Start.scripts m mid.tally.items new.order.items (h ++ drop c.args.given log')) (sym (ap (λ p. p.shared) c.put_run-in-Ok.ensures.same)) q.0),
      q.1,
      λ free. q.2,
    )

pub returns-after-not-is_sound-2-clause-stands : goal.returns-after-not-is_sound-2-clause-stands
returns-after-not-is_sound-2-clause-stands g c start h stands mine logged =
    let D = g.M.Zoned.machine in
    let log = c.args.log.now.items in
    let old = c.args.part.now in
    let mid = c.attempt.new.part in
    let new = c.put_run-in-Err.new.part in
    let noting = noted_rest D c.args.place c.args.given log c.deref.result.now old.tally.items c.note_some.new.tally.items c.deref.ensures.value c.note_some.ensures.each in
    let still : c.if-not-is_sound-2.marked ≡ false → D.is_sound mid.shared ≡ true = elim c.if-not-is_sound-2.branch [ then-not-is_sound-2 w ↦ λ m. absurd (apart (sym w.marked-is ∙ m)) | else-not-is_sound-2 w ↦ λ m. sym c.is_sound-in-Err.ensures ∙ search rules ] in
    let shared : new.shared ≡ mid.shared = ap (λ p. p.shared) c.put_run-in-Err.ensures.same in
    let left = left_shared D g.met.M.Machine.laws start g.J.Start.scripts c.args.place c.args.given log c.args.cell.now c.args.marked.now old.shared old.tally.items c.note_some.new.tally.items old.order.items h
    stands mine logged noting c.note_some.ensures.len c.attempt.new.cell mid.shared c.if-marked.false c.in-Err.ensures.same in
    let q = quiet D g.met.M.Machine.laws start g.J.Start.scripts c.args.place c.args.given log c.args.cell.now c.args.marked.now old.shared old.tally.items c.note_some.new.tally.items old.order.items h
    stands mine logged noting c.note_some.ensures.len mid.shared new.order.items (c.len-in-Err.result - c.args.given) left (search rules) (c.put_run-in-Err.ensures.order ∙ ap (λ v. v.items ++ (c.args.place, c.len-in-Err.result - c.args.given) ∷ []) c.attempt.ensures.order) in
    let told : new.tally.items ≡ c.note_some.new.tally.items = ap (λ p. p.tally.items) c.put_run-in-Err.ensures.same ∙ ap (λ v. v.items) c.in-Err.ensures.tally in (
      subst (λ ts. Stands D start g.J.Start.scripts new.shared ts new.order.items (h ++ drop c.args.given log)) (sym told)
          (subst (λ m. Stands D start g.J.Start.scripts m c.note_some.new.tally.items new.order.items (h ++ drop c.args.given log)) (sym shared) q.0),
      q.1,
      quiet_cell D g.met.M.Machine.laws start g.J.Start.scripts c.args.place c.args.given log c.args.cell.now c.args.marked.now old.shared old.tally.items c.note_some.new.tally.items old.order.items h
          stands mine logged noting c.note_some.ensures.len c.attempt.new.cell c.if-not-is_sound-2.marked (λ m. (c.if-marked.false, c.in-Err.ensures.same.cell (still m))),
    )

pub returns-in-Ok-clause-mine : goal.returns-in-Ok-clause-mine
returns-in-Ok-clause-mine g c = mine_more g.M.Zoned.machine c.args.place c.args.given c.args.log.now.items c.push_reserved.new.self.items c.in-Ok.entry (search rules) c.push_reserved.ensures.items c.in-Ok.ensures.mine
