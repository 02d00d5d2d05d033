use Rattle.std.proofs.Common.{◌≡◌, Ok, Err, refl, rules, subst}
use Rattle.zonecfg_scopes.specs.Denotes.{GoesOn}
use Rattle.zonecfg_scopes.specs.Edited.{Edited}
use Rattle.zonecfg_scopes.proofs.Followed.{goes_done, goes_failed}
use Rattle.zonecfg_scopes.proofs.InPlace.{follows_in_place}
use Rattle.zonecfg_scopes.proofs.editor.Editor.obey.Goals as goal

pub invariant_of-self-2 : goal.invariant_of-self-2
invariant_of-self-2 c = follows_in_place c.args.command c.self.inside.opened c.obey.new.opened c.obey.result c.obey.ensures c.self.invariant

pub returns-clause-stands : goal.returns-clause-stands
returns-clause-stands c =
    let reply = c.in_ok-reply.reply in
    subst (λ (e : Edited). GoesOn c.args.command e.opened c.obey.new.opened (Ok reply)) c.self.view_is
    (goes_done c.args.command c.self.inside.opened c.obey.new.opened (Ok reply) reply c.in_ok-obey.field-0 refl c.in_ok-obey.ensures)

pub returns-in_err-obey-clause-stands : goal.returns-in_err-obey-clause-stands
returns-in_err-obey-clause-stands c =
    let answer = c.from_residual-in_err-obey.result in
    let fault = c.in_err-obey.field-0.0 in
    let passed : answer ≡ Err fault = search rules in
    subst (λ (e : Edited). GoesOn c.args.command e.opened c.obey.new.opened answer) c.self.view_is
    (goes_failed c.args.command c.self.inside.opened c.obey.new.opened answer fault passed c.in_err-obey.ensures)
