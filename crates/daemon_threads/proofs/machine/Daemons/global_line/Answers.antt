use Rattle.std.proofs.Common.{subst, sym}
use Rattle.zone_threads.specs.Machines.{Stepped}
use Rattle.daemon_threads.specs.Definitions.{CellIn, daemons, place_world, state_of}
use Rattle.daemon_threads.proofs.machine.Daemons.global_line.Goals as goal

pub returns-in-Ok-clause-step : goal.returns-in-Ok-clause-step
returns-in-Ok-clause-step g c = λ s has stands of.
    let zones = g.N.Names.zones in let brands = g.N.Names.brands in
    subst (λ k. CellIn brands k (place_world zones c.args.place (state_of brands s)) → Stepped (daemons g.D.Disk.view g.N.Names.view zones brands) c.args.place k c.global_event.new.shared c.in-Ok.entry s) (sym c.in-Global.is)
    (λ there. c.in-Ok.ensures.step c.args.place s there stands of) has
