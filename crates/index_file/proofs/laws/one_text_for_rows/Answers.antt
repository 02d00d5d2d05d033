use Rattle.index_file.proofs.OneReading.{one_text}
use Rattle.index_file.proofs.laws.one_text_for_rows.Goals as goal

pub returns : goal.returns
returns c = one_text
