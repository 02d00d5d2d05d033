use Rattle.std.proofs.Common.{ap, ◌∙◌}
use Rattle.zone_cases.specs.declared.events.Event.TheVariants.{Turn}
use Rattle.zone_cases.specs.declared.events.Subject.TheVariants.{Zone}
use Rattle.zone_machine.proofs.Local_laws.{subject-turn}
use Rattle.daemon_threads.proofs.Results.{if_ok, on_err}
use Rattle.daemon_threads.proofs.Stepping.{unfinished}
use Rattle.daemon_threads.specs.Definitions.{state_of}
use Rattle.daemon_threads.proofs.machine.Daemons.turn_at.Goals as goal

pub returns-clause-step : goal.returns-clause-step
returns-clause-step g c =
    if_ok c.zone_event.result _ _
    (λ e step s has stands. step s has stands (subject-turn (state_of g.N.Names.brands s) c.in_ok-copy.field-0 ∙ ap Zone c.in_ok-copy.ensures))
    c.zone_event.ensures.step

pub returns-clause-err : goal.returns-clause-err
returns-clause-err g c =
    on_err c.zone_event.result _ _
    (unfinished g.D.Disk.view g.N.Names.view g.N.Names.zones g.N.Names.apart g.N.Names.brands c.args.place c.args.zone.now (Turn c.in_ok-copy.field-0) c.args.cell.now c.args.shared.now c.zone_event.new.cell c.zone_event.new.shared
    (λ S. subject-turn S c.in_ok-copy.field-0 ∙ ap Zone c.in_ok-copy.ensures))
    c.zone_event.ensures.err
