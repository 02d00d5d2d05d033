use Rattle.zonecfg_scopes.proofs.Lines.{lines_denote}
use Rattle.zonecfg_scopes.proofs.laws.lines_denote.Goals as goal

pub returns : goal.returns
returns c = lines_denote
