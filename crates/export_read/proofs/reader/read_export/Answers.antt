use Rattle.std.proofs.Common.{sym, ◌∙◌}
use Rattle.export_read.proofs.ReadBack.{reads_every}
use Rattle.export_read.proofs.reader.read_export.Goals as goal

pub returns-in-Some-clause-every : goal.returns-in-Some-clause-every
returns-in-Some-clause-every c = λ s sound e. reads_every c.args.text.now s c.in-Some.config (sym c.in_ok-config.ensures ∙ c.in-Some.is) sound e
