use Rattle.index_file.proofs.OneReading.{one_row}
use Rattle.index_file.proofs.laws.one_row_a_line.Goals as goal

pub returns : goal.returns
returns c = one_row
