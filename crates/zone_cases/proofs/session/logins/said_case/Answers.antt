use Rattle.zone_cases.proofs.Login_cases.{passed_case}
use Rattle.zone_cases.proofs.session.logins.said_case.Goals as goal

pub returns : goal.returns
returns c = passed_case c.args.zone.now c.args.cell.now c.args.pid c.args.call.now c.in_ok-case.case c.status_of.result c.pass_on.result c.status_of.ensures c.in_ok-case.ensures.case c.pass_on.ensures.decides c.pass_on.ensures.of c.pass_on.ensures.named c.pass_on.ensures.objects
