use Rattle.std.proofs.Common.{rules}
use Rattle.zone_threads.specs.Notes.{note_by}
use Rattle.zone_threads.proofs.Gathering.{none_told}
use Rattle.zone_threads.proofs.live.placed.Goals as goal

pub returns-in_default-clause-memory : goal.returns-in_default-clause-memory
returns-in_default-clause-memory g c =
    let e = c.close.ensures in
    (e.1.history.untouched (none_told (note_by g.M.Zoned.machine.by) e.0 c.args.first.knows c.requires.turn.2 e.1.mine e.1.whole), search rules)
