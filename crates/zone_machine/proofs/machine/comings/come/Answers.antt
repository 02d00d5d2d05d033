use Rattle.std.proofs.Common.{ap}
use Rattle.zone_machine.proofs.Rooms_laws.{free_came}
use Rattle.zone_machine.specs.Code.Comings.{is_claim}
use Rattle.zone_cases.specs.Code.Cases.{objects_of}
use Rattle.zoneadmd_steps.specs.Code.Cases.{premise_of}
use Rattle.zone_cases.specs.declared.cell.Cell.{Cell}
use Rattle.zone_machine.proofs.machine.comings.come.Goals as goal

pub returns-clause-objects : goal.returns-clause-objects
returns-clause-objects c =
    free_came (premise_of (objects_of c.args.case.now)) (is_claim c.case_newcomer.result) c.args.cell.now c.let_in.new.cell c.case_newcomer.ensures.claim c.let_in.ensures.claims (ap (λ (c : Cell). c.mounts) c.let_in.ensures.cell) c.requires.objects
