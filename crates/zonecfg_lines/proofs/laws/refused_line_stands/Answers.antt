use Rattle.zonecfg_lines.proofs.Denoting.{refused_line_stands}
use Rattle.zonecfg_lines.proofs.laws.refused_line_stands.Goals as goal

pub returns : goal.returns
returns c = refused_line_stands
