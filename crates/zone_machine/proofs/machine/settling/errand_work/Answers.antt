use Rattle.zone_machine.proofs.machine.settling.errand_work.Goals as goal

pub returns-in-Signals-clause-works : goal.returns-in-Signals-clause-works
returns-in-Signals-clause-works c = λ n v d desk. rw c.in-Signals.is (c.signal_work.ensures.works n v d desk)
