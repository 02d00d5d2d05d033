use Rattle.std.proofs.Common.{◌≡◌, Err, rules, ap}
use Rattle.zonecfg_scopes.specs.Edited.{Edited}
use Rattle.zonecfg_scopes.proofs.Followed.{stands_by_line, stands_unread}
use Rattle.zonecfg_scopes.proofs.editor.Editor.command.Goals as goal

pub returns-in_err-command-clause-stands : goal.returns-in_err-command-clause-stands
returns-in_err-command-clause-stands c =
    let fault = c.in_err-command.field-0.0 in
    let passed : c.from_residual.result ≡ Err fault = search rules in
    stands_unread c.args.line.now fault c.from_residual.result c.args.self.now passed c.in_err-command.ensures

pub returns-clause-stands : goal.returns-clause-stands
returns-clause-stands c =
    stands_by_line c.args.line.now c.in_ok-command.command c.args.self.now c.obey.new.self c.obey.result c.in_ok-command.ensures c.obey.ensures.stands
    (ap (λ (e : Edited). e.base) c.obey.ensures.held)
