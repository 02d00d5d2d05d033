use Rattle.std.proofs.Common.{◌≡◌, true, false, Ok, Err, ap, rules, subst, sym}
use Rattle.zonecfg_scopes.specs.declared.command.EditReply.TheVariants.{WantVerify}
use Rattle.zonecfg_scopes.specs.Edited.{Edited, answer_of, stepped}
use Rattle.zones_run.specs.Refusals.{refused}
use Rattle.zones_run.specs.Subcommands.{Edits, is_elsewhere, obeyed}
use Rattle.zones_run.proofs.Obeying.{does, elsewhere, fails, verifies}
use Rattle.zones_run.proofs.edit.obey.Goals as goal

pub returns-in_err-obey : goal.returns-in_err-obey
returns-in_err-obey c =
    let fault = c.in_err-obey.field-0.0 in
    let here : is_elsewhere c.args.command ≡ false = search rules in
    let passed : c.from_residual.result ≡ Err (refused fault) = search rules in
    subst (λ r. Edits c.obey.new.self.opened r (obeyed c.args.command c.args.editor.now.opened)) (sym passed)
    (fails c.args.command c.args.editor.now c.obey.new.self.opened fault here c.in_err-obey.ensures.answer)

pub returns-then-is_elsewhere : goal.returns-then-is_elsewhere
returns-then-is_elsewhere c =
    let is : is_elsewhere c.args.command ≡ true = cc in
    elsewhere c.args.command c.args.editor.now.opened is

pub returns-in-WantVerify : goal.returns-in-WantVerify
returns-in-WantVerify c =
    let command = c.args.command in
    let old = c.args.editor.now in
    let here : is_elsewhere command ≡ false = cc in
    let opened : c.obey.new.self.opened ≡ stepped command old.opened = ap (λ (e : Edited). e.opened) c.in_ok-obey.ensures.ok in
    let answer : answer_of command old ≡ Ok WantVerify = cc (c.in_ok-obey.ensures.answer, c.in-WantVerify.is) in
    rw (verifies command old here answer, ← opened) c.first_flaw.ensures

pub returns : goal.returns
returns c =
    let command = c.args.command in
    let old = c.args.editor.now in
    let here : is_elsewhere command ≡ false = cc in
    let opened : c.obey.new.self.opened ≡ stepped command old.opened = ap (λ (e : Edited). e.opened) c.in_ok-obey.ensures.ok in
    rw opened (does command old c.in_ok-obey.field-0 here c.in_ok-obey.ensures.answer c.in_default.not-WantVerify)
