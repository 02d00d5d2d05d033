use Rattle.zoneadmd_steps.proofs.Results.{if_ok}
use Rattle.zone_machine.proofs.Stepping.{line-case}
use Rattle.zone_machine.specs.Code.Cells.{declared_in}
use Rattle.zone_cases.specs.Code.Lines.{as_line}
use Rattle.zone_machine.proofs.machine.steps.line_case.Goals as goal

pub returns : goal.returns
returns c =
    if_ok c.decide_line.result _ _
    (λ case h. line-case c.args.zone.now c.args.shared.now c.args.cell.now c.args.number (as_line c.args.line) _ _ case c.get-row.ensures.value c.doing_of-doing.ensures (h (declared_in c.args.shared.now)))
    c.decide_line.ensures
