use Rattle.export_read.proofs.Rows.{says_script}
use Rattle.export_read.proofs.laws.lines_say_their_commands.Goals as goal

pub returns : goal.returns
returns c = says_script
