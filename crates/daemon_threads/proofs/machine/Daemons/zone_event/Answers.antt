use Rattle.daemon_threads.proofs.Results.{if_ok_on}
use Rattle.daemon_threads.proofs.Stepping.{cell-there, zone-stepped}
use Rattle.daemon_threads.specs.Definitions.{state_of}
use Rattle.daemon_threads.proofs.machine.Daemons.zone_event.Goals as goal

pub returns-clause-step : goal.returns-clause-step
returns-clause-step g c =
    let zones = g.N.Names.zones in let brands = g.N.Names.brands in let z = c.args.zone.now in let p = c.args.place in
    if_ok_on c.zone_step.result _ _ _
    (λ e step sound s has stands of. zone-stepped zones g.N.Names.apart brands p s g.D.Disk.view g.N.Names.view z c.args.event e c.zone_step.new.cell c.zone_step.new.self c.requires.there of
    (step (state_of brands s) s.stored (cell-there zones g.N.Names.apart brands p s z c.args.cell.now has) stands of) sound)
    c.zone_step.ensures.step c.zone_step.ensures.sound
