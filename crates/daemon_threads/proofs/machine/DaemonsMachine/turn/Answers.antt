use Rattle.std.proofs.Common.{subst, sym}
use Rattle.zone_threads.specs.Machines.{Unfinished}
use Rattle.daemon_threads.proofs.Results.{on_err}
use Rattle.daemon_threads.specs.Definitions.{daemons}
use Rattle.daemon_threads.specs.declared.cell.PlaceCell.TheVariants as cells
use Rattle.daemon_threads.proofs.machine.DaemonsMachine.turn.Goals as goal

pub returns-in-Zone-clause-err : goal.returns-in-Zone-clause-err
returns-in-Zone-clause-err g c =
    on_err c.turn_at.result _ _
    (λ err. subst (λ k. Unfinished (daemons g.D.Disk.view g.N.Names.view g.N.Names.zones g.N.Names.brands) c.args.place k c.args.shared.now (cells.Zone c.in-Zone.zone c.turn_at.new.cell) c.turn_at.new.shared) (sym c.in-Zone.is) err)
    c.turn_at.ensures.err
