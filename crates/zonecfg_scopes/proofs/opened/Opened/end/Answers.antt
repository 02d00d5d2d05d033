use Rattle.std.proofs.Common.{◌≡◌, Err, rules, subst, sym}
use Rattle.zonecfg_scopes.specs.declared.command.Command.TheVariants.{End}
use Rattle.zonecfg_scopes.specs.Denotes.{Follows}
use Rattle.zonecfg_scopes.specs.Scopes.{ended_length}
use Rattle.zonecfg_scopes.proofs.Ending.{stays}
use Rattle.zonecfg_scopes.proofs.opened.Opened.end.Goals as goal

pub returns-in_err-size : goal.returns-in_err-size
returns-in_err-size c =
    let fault = c.in_err-size.field-0.0 in
    let passed : c.from_residual.result ≡ Err fault = search rules in
    let is : ended_length c.args.self.now ≡ Err fault = cc (c.in_err-size.ensures) in
    subst (λ r. Follows End c.args.self.now c.args.self.now r) (sym passed) (stays c.args.self.now fault is)
