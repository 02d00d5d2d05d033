use Rattle.index_file.proofs.OneReading.{one_way}
use Rattle.index_file.proofs.laws.reads_one_way.Goals as goal

pub returns : goal.returns
returns c = one_way
