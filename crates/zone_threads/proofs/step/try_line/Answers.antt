use Rattle.std.proofs.Common.{◌≡◌, Some, rules, slice_get, subst}
use Rattle.zone_threads.proofs.Steps.{got, line_done}
use Rattle.zone_threads.proofs.step.try_line.Goals as goal

pub returns-in-Ok-clause-did : goal.returns-in-Ok-clause-did
returns-in-Ok-clause-did g c S t cell shared tally =
    let done = c.in_ok-done.ensures.at in
    let script = c.requires.script in
    let there : slice_get c.args.lines.now c.args.number ≡ Some c.index-lines-number.result = got c.args.lines.now c.args.number _ _ (search rules) c.index-lines-number.is in
    line_done g.M.Zoned.machine g.J.Start.scripts c.args.place c.args.session c.args.number c.index-lines-number.result c.line.new.cell c.line.new.shared c.args.part.now.tally.items c.note.new.tally.items c.in-Ok.entry S t
    (c.in-Ok.ensures.step S cell shared) c.in-Ok.ensures.line script.0 (subst (λ xs. slice_get xs c.args.number ≡ Some c.index-lines-number.result) script.1 there)
    (search rules) (search rules) tally c.note.ensures.len (search rules)
