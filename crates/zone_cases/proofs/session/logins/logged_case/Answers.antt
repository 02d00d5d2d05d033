use Rattle.std.proofs.Common.{Ok, false, rules, ◌≡◌}
use Rattle.zone_pools.specs.Firsts.{is_nil}
use Rattle.process_calls.specs.Calls.{call_of}
use Rattle.zone_cases.specs.Session.Logins.{escapes}
use Rattle.zone_cases.proofs.Login_cases.{called_case}
use Rattle.zone_cases.proofs.session.logins.logged_case.Goals as goal

pub returns-in-Ok : goal.returns-in-Ok
returns-in-Ok c =
    let text = c.args.line.now in
    let stays : escapes c.args.escape text ≡ false = search rules in
    let typed : is_nil text ≡ false = search rules in
    let read : call_of text ≡ Ok c.in-Ok.call = search rules in
    called_case c.args.zone.now c.args.cell.now c.args.pid c.args.escape text c.in-Ok.call c.said_case.result stays typed read c.said_case.ensures
