use Rattle.zone_cases.proofs.session.line_cases.decide_line.Goals as goal

pub returns-in-Some : goal.returns-in-Some
returns-in-Some c = rw c.in-Some.is c.busy_case.ensures
