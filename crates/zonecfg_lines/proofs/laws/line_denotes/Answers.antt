use Rattle.zonecfg_lines.proofs.Denoting.{line_denotes}
use Rattle.zonecfg_lines.proofs.laws.line_denotes.Goals as goal

pub returns : goal.returns
returns c = line_denotes
