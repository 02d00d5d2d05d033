use Rattle.zoneadmd_steps.proofs.turn_cases.job_turn.Goals as goal

pub returns-in-Some-clause-of : goal.returns-in-Some-clause-of
returns-in-Some-clause-of c = c.go_on.ensures.of c.args.desk.now c.args.job.now c.requires.job c.undo_turn.ensures.of

pub returns-in-Some-clause-named : goal.returns-in-Some-clause-named
returns-in-Some-clause-named c = c.go_on.ensures.named c.args.zone.now (c.undo_turn.ensures.named c.args.zone.now)
