use Rattle.zoneadmd_steps.proofs.local_cases.step_case.Goals as goal

pub returns-in-Hook-clause-of : goal.returns-in-Hook-clause-of
returns-in-Hook-clause-of c = c.hooked.ensures.of c.args.job.now c.requires.goes

pub returns-in_ok-set_limits-in-Limits-clause-of : goal.returns-in_ok-set_limits-in-Limits-clause-of
returns-in_ok-set_limits-in-Limits-clause-of c = c.in_ok-set_limits-in-Limits.ensures.of c.args.job.now c.requires.goes

pub returns-in_ok-mount_root-in-Root-clause-of : goal.returns-in_ok-mount_root-in-Root-clause-of
returns-in_ok-mount_root-in-Root-clause-of c = c.in_ok-mount_root-in-Root.ensures.of c.args.job.now c.requires.goes
