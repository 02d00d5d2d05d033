use Rattle.std.proofs.Common.{◌≡◌, Bool, not, rules, subst, sym}
use Rattle.std.specs.Bool.{Decides}
use Rattle.zonecfg_scopes.specs.Edited.{IsChanged, is_changed}
use Rattle.zonecfg_scopes.proofs.Changed.{is_changed_decides}
use Rattle.zonecfg_scopes.proofs.editor.Editor.changed.Goals as goal

pub returns-in-Some-Some-clause-meaning : goal.returns-in-Some-Some-clause-meaning
returns-in-Some-Some-clause-meaning c =
    let value : not c.same_contents.result ≡ is_changed c.args.self.now = search rules in
    subst (λ (b : Bool). Decides b (IsChanged c.args.self.now)) (sym value) (is_changed_decides c.args.self.now)
