use Rattle.zoneadmd_steps.proofs.Turn_kinds.{apart}
use Rattle.zoneadmd_steps.specs.Code.Cases.{as_objects}
use Rattle.zoneadmd_steps.proofs.turn_cases.shared_case.Goals as goal

pub job_turn-requires-clause-apart : goal.job_turn-requires-clause-apart
job_turn-requires-clause-apart c = λ goes. apart c.args.system.brands.now (as_objects c.args.objects) c.args.desk.now c.in-Some.job c.requires c.in-Some.is goes
