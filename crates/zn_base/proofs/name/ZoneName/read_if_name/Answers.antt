use Rattle.std.proofs.Common.{◌≡◌, ◌∙◌, Ok, Some, None, ap, if◌then◌else◌, sym, true}
use Rattle.std.specs.Prelude.{is_ok}
use Rattle.zn_base.specs.Names.{is_name, name_of}
use Rattle.zn_base.proofs.Read_back.{name_of_name}
use Rattle.zn_base.proofs.name.ZoneName.read_if_name.Goals as goal

pub returns-in-Ok-clause-name : goal.returns-in-Ok-clause-name
returns-in-Ok-clause-name c =
    let said : name_of c.args.bytes.now ≡ Ok c.in-Ok.name = c.in-Ok.ensures.answer in
    let is : is_name c.args.bytes.now ≡ true = ap is_ok said in
    let same : c.in-Ok.name ≡ c.args.bytes.now = cc (said, (name_of_name c.args.bytes.now is).0) in
    ap Some same ∙ sym (ap (λ b. if b then Some c.args.bytes.now else None) is)
