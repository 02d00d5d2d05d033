use Rattle.std.proofs.Common.{◌≡◌, rules, sym, true, ◌∙◌}
use Rattle.zone_threads.proofs.Steps.{turn_done}
use Rattle.zone_threads.proofs.step.try_turn.Goals as goal

pub returns-in-Ok-clause-did : goal.returns-in-Ok-clause-did
returns-in-Ok-clause-did g c S t cell shared tally =
    let D = g.M.Zoned.machine in
    let busy : c.is_busy.result ≡ true = search rules in
    turn_done D g.met.M.Machine.laws g.J.Start.scripts c.args.place c.args.cell.now c.turn.new.cell c.turn.new.shared c.args.part.now.tally.items c.note.new.tally.items c.in-Ok.entry S t
    (c.in-Ok.ensures.step S cell shared) c.in-Ok.ensures.turn (sym (c.is_busy.ensures c.requires.sound c.args.place S cell shared) ∙ busy) tally c.note.ensures.len (search rules)
