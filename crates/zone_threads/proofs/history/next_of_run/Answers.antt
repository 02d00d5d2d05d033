use Rattle.std.proofs.Common.{◌≡◌, ◌-◌, ◌++◌, ap, arith, replicate, suc, sym, ◌∙◌}
use Rattle.zone_threads.specs.Joined.{joined, tail_of}
use Rattle.zone_threads.proofs.Joining.{passed_over, same_joined, taken}
use Rattle.zone_threads.proofs.history.next_of_run.Goals as goal

pub returns-in-Some-clause-some : goal.returns-in-Some-clause-some
returns-in-Some-clause-some g c ps =
    let run = c.args.run.now in
    let old = tail_of c.args.tails.now.items in
    let more : run.1 ≡ suc (run.1 - 1) = (let some = c.if-run-eq0.false in omega arith) in
    ap (λ k. joined (replicate k run.0 ++ ps) old) more ∙ taken run.0 (replicate (run.1 - 1) run.0 ++ ps) old (tail_of c.next_of.new.tails.items) c.in-Some.entry c.in-Some.ensures.some

pub returns-in-None-clause-none : goal.returns-in-None-clause-none
returns-in-None-clause-none g c ps =
    let run = c.args.run.now in
    let old = tail_of c.args.tails.now.items in
    let none = c.in-None.ensures.none in
    passed_over run.1 run.0 ps old none.0 ∙ same_joined ps old (tail_of c.next_of.new.tails.items) (λ p. sym (none.1 p))
