use Rattle.zoneadmd_steps.proofs.shared_cases.stored_case.Goals as goal

pub returns-in_ok-store_state-in-Record-clause-of : goal.returns-in_ok-store_state-in-Record-clause-of
returns-in_ok-store_state-in-Record-clause-of c = c.in_ok-store_state-in-Record.ensures.of c.args.job.now c.requires.goes

pub returns-in_ok-store_path-in-Moved-clause-of : goal.returns-in_ok-store_path-in-Moved-clause-of
returns-in_ok-store_path-in-Moved-clause-of c = c.in_ok-store_path-in-Moved.ensures.of c.args.job.now c.requires.goes
