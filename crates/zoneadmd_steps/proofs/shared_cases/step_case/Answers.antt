use Rattle.zoneadmd_steps.proofs.shared_cases.step_case.Goals as goal

pub returns-clause-named : goal.returns-clause-named
returns-clause-named c = c.in_ok-object_case.ensures.named c.args.zone.now
