use Rattle.std.proofs.Common.{◌∙◌}
use Rattle.daemon_threads.proofs.Results.{if_ok}
use Rattle.daemon_threads.proofs.Stepping.{global-stepped}
use Rattle.daemon_threads.specs.Definitions.{state_of}
use Rattle.daemon_threads.proofs.machine.Daemons.global_event.Goals as goal

pub returns-clause-step : goal.returns-clause-step
returns-clause-step g c =
    if_ok c.global_step.result _ _
    (λ e step p s is stands of. global-stepped g.N.Names.zones g.N.Names.apart g.N.Names.brands p s g.D.Disk.view g.N.Names.view c.args.event e c.global_step.new.self is of (step c.requires.sound (state_of g.N.Names.brands s) s.stored stands of) (c.global_step.ensures.sound ∙ c.requires.sound))
    c.global_step.ensures.step
