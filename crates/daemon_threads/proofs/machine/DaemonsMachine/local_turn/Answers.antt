use Rattle.std.proofs.Common.{subst}
use Rattle.daemon_threads.proofs.Results.{if_ok, is_none, on_err}
use Rattle.daemon_threads.proofs.Stepping.{still-in}
use Rattle.daemon_threads.specs.Definitions.{CellIn}
use Rattle.daemon_threads.proofs.machine.DaemonsMachine.local_turn.Goals as goal

pub returns-in-Zone-clause-none : goal.returns-in-Zone-clause-none
returns-in-Zone-clause-none g c =
    if_ok c.local_turn_at.result _ _
    (λ turn same none w has. still-in g.N.Names.brands c.in-Zone.zone c.in-Zone.cell c.local_turn_at.new.cell (same (is_none turn none)) w (subst (λ k. CellIn g.N.Names.brands k w) c.in-Zone.is has))
    c.local_turn_at.ensures.none

pub returns-in-Zone-clause-err : goal.returns-in-Zone-clause-err
returns-in-Zone-clause-err g c =
    on_err c.local_turn_at.result _ _
    (λ same w has. still-in g.N.Names.brands c.in-Zone.zone c.in-Zone.cell c.local_turn_at.new.cell same w (subst (λ k. CellIn g.N.Names.brands k w) c.in-Zone.is has))
    c.local_turn_at.ensures.memory
