use Rattle.zoneadmd_steps.proofs.Results.{if_ok}
use Rattle.zone_machine.specs.Code.Cells.{outside_in}
use Rattle.zone_machine.proofs.machine.steps.case_of.Goals as goal

pub returns-in-Process : goal.returns-in-Process
returns-in-Process c = if_ok c.decide_call.result _ _ (λ case h. rw c.in-Process.is (h (outside_in c.args.zone.now c.args.shared.now))) c.decide_call.ensures.case
