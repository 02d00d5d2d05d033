use Rattle.std.proofs.Common.{Some, ap}
use Rattle.zone_cases.proofs.Line_cases.{edits-case, on_case}
use Rattle.zone_cases.specs.Code.Doings.{as_doing}
use Rattle.zone_cases.specs.Code.Lines.{as_line}
use Rattle.zone_cases.specs.Session.Typed.{typed}
use Rattle.zone_cases.proofs.session.line_cases.busy_case.Goals as goal

pub returns-in-Edits : goal.returns-in-Edits
unfolding typed
returns-in-Edits c =
    let line = as_line c.args.line in
    edits-case c.edit_case.result c.args.zone.now c.args.cell.now _ c.args.brands.now c.in-Edits.editor line.text _
    (λ v. ap (λ d. typed v (Some (as_doing d)) line) c.in-Edits.is)
    c.edit_case.ensures.decides c.edit_case.ensures.of c.edit_case.ensures.named c.edit_case.ensures.free

pub returns-in-LoggedIn : goal.returns-in-LoggedIn
unfolding typed
returns-in-LoggedIn c = on_case c.logged_case.result (λ case said declared. rw c.in-LoggedIn.is (said _)) c.logged_case.ensures

pub returns-in-AtConsole : goal.returns-in-AtConsole
unfolding typed
returns-in-AtConsole c = on_case c.console_case.result (λ case said declared. rw c.in-AtConsole.is (said _)) c.console_case.ensures
