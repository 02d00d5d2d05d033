use Rattle.std.proofs.Common.{refl}
use Rattle.std.specs.Option.{option_map}
use Rattle.zoneadmd_steps.proofs.Results.{if_ok}
use Rattle.zoneadmd_steps.proofs.Turn_kinds.{if_local, if_shared}
use Rattle.zoneadmd_steps.specs.Code.Cases.{as_objects, turn_decision_of}
use Rattle.zoneadmd_steps.specs.Code.Shareds.{seen_by}
use Rattle.zoneadmd_steps.proofs.turn_cases.decide_turn.Goals as goal

pub returns-in-Some-clause-decides : goal.returns-in-Some-clause-decides
returns-in-Some-clause-decides c =
    let o = as_objects c.args.objects in
    let some = rw c.in-Some.is at c.in_ok-case.ensures.some in
    if_local (seen_by c.args.desk.now (option_map (λ r. r.now) c.args.row) c.args.objects c.args.system) (turn_decision_of c.args.desk.now c.in-Some.case) (some c.args.system.brands.now o refl refl c.requires)

pub returns-in-None-clause-decides : goal.returns-in-None-clause-decides
returns-in-None-clause-decides c =
    let o = as_objects c.args.objects in
    let none = c.in_ok-case.ensures.none c.in-None.is c.args.system.brands.now o refl refl in
    if_ok c.shared_case.result _ _ (λ x h. if_shared (seen_by c.args.desk.now (option_map (λ r. r.now) c.args.row) c.args.objects c.args.system) (turn_decision_of c.args.desk.now x) none h) c.shared_case.ensures.decides
