use Rattle.std.proofs.Common.{◌≡◌, Some, rules}
use Rattle.session_records.specs.Places.{zone_at}
use Rattle.daemon_threads.proofs.Results.{if_ok_some}
use Rattle.daemon_threads.proofs.Stepping.{done-in, turn-of}
use Rattle.daemon_threads.proofs.machine.Daemons.local_turn_at.Goals as goal

pub returns-clause-turn : goal.returns-clause-turn
returns-clause-turn g c =
    let at : zone_at g.N.Names.zones c.args.place ≡ Some c.args.zone.now = search rules in
    if_ok_some c.local_turn.result _ _
    (λ e turn. turn-of g.N.Names.zones g.N.Names.apart c.args.place c.args.zone.now g.N.Names.brands c.args.cell.now c.hear_zone-hook.result e c.local_turn.new.cell at c.hear_zone-hook.ensures turn) c.local_turn.ensures.some

pub returns-clause-some : goal.returns-clause-some
returns-clause-some g c =
    let at : zone_at g.N.Names.zones c.args.place ≡ Some c.args.zone.now = search rules in
    if_ok_some c.local_turn.result _ _
    (λ e turn. done-in g.N.Names.zones g.N.Names.apart c.args.place c.args.zone.now g.N.Names.brands c.args.cell.now c.hear_zone-hook.result e c.local_turn.new.cell at c.hear_zone-hook.ensures turn) c.local_turn.ensures.some
