use Rattle.zone_machine.proofs.machine.sitting.sit.Goals as goal

pub returns-in-Some-clause-does : goal.returns-in-Some-clause-does
returns-in-Some-clause-does c = λ is_open. rw c.in-Some.is (c.begin.ensures.does is_open)

pub returns-in-None-clause-does : goal.returns-in-None-clause-does
returns-in-None-clause-does c = λ is_open. rw c.in-None.is (c.stop.ensures.does c.args.sitting.owner is_open)
