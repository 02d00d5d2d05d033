use Rattle.export_read.proofs.Whole.{texts_differ}
use Rattle.export_read.proofs.laws.export_texts_differ.Goals as goal

pub returns : goal.returns
returns c = texts_differ
