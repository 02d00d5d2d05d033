use Rattle.zone_cases.proofs.session.line_cases.idle_case.Goals as goal

pub returns-in-Kill-clause-of : goal.returns-in-Kill-clause-of
returns-in-Kill-clause-of c = c.signal_case.ensures.of c.args.cell.now.desk

pub returns-in-Kill-clause-named : goal.returns-in-Kill-clause-named
returns-in-Kill-clause-named c = c.signal_case.ensures.named c.args.zone.now
