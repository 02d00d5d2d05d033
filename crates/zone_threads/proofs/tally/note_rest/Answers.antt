use Rattle.std.proofs.Common.{rules, ◌≡◌, ◌-◌, ◌≤◌, arith, drop, length, length-drop, subst, take}
use Rattle.std.proofs.lemmas.List.{take_all}
use Rattle.zone_threads.specs.Folds.{folded}
use Rattle.zone_threads.specs.Scripts.{TallyOf, noted}
use Rattle.zone_threads.proofs.Steps.{tally_rest}
use Rattle.zone_threads.proofs.tally.note_rest.Goals as goal

pub loop-i-preserved : goal.loop-i-preserved
loop-i-preserved g c = (
  search rules,
  λ t mine was. tally_rest g.M.Zoned.machine c.args.place c.args.from c.loop-i.i c.args.entries.now.items c.loop-i.tally.items c.note.new.tally.items c.index.result.now t
      (search rules) (search rules) c.index.ensures mine (c.loop-i.invariant.1 t mine was) c.note.ensures.len (search rules),
)

pub returns-clause-each : goal.returns-clause-each
returns-clause-each g c t mine was =
    let rest = drop c.args.from c.args.entries.now.items in
    let far : length c.args.entries.now.items ≤ c.loop-i.i = search rules in
    let all : take (c.loop-i.i - c.args.from) rest ≡ rest = take_all (c.loop-i.i - c.args.from) rest (let l = length-drop c.args.from c.args.entries.now.items in omega arith) in
    subst (λ es. TallyOf c.loop-i.tally.items (folded (noted g.M.Zoned.machine) t es)) all (c.loop-i.invariant.1 t mine was)
