use Rattle.zone_machine.proofs.machine.sitting.end_ticket.Goals as goal

pub returns-clause-does : goal.returns-clause-does
returns-clause-does c = λ z n. c.end.ensures.does z
