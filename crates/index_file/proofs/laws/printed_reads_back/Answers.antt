use Rattle.index_file.proofs.OneReading.{printed}
use Rattle.index_file.proofs.laws.printed_reads_back.Goals as goal

pub returns : goal.returns
returns c = printed
