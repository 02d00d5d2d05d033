use Rattle.std.proofs.Common.{ap, sym, ◌∙◌}
use Rattle.zonecfg_lex.proofs.MadeValues.{first_and_rest}
use Rattle.zonecfg_scopes.specs.Commands.{list_named}
use Rattle.zonecfg_scopes.proofs.Reading.{remove_of-matching}
use Rattle.zonecfg_scopes.proofs.forms.remove.Goals as goal

pub returns-in-None : goal.returns-in-None
returns-in-None c =
    let first = first_and_rest c.args.args.now _ c.in-len1-up.len_at_least in
    rw (remove_of-matching c.args.line.now c.args.args.now _ _ first (ap list_named (sym c.said.ensures) ∙ sym c.in-None.ensures)) c.remove_matching.ensures
