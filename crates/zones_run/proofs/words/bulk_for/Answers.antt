use Rattle.std.proofs.Common.{◌∙◌, sym}
use Rattle.zones_run.proofs.Purging.{most_decimal}
use Rattle.zones_run.proofs.words.bulk_for.Goals as goal

pub returns-in-Some-clause-few : goal.returns-in-Some-clause-few
returns-in-Some-clause-few c = most_decimal 256 c.args.word.now c.in-Some.zones (sym c.in-Some.is ∙ (rw c.as_bytes.ensures.value at c.read_decimal.ensures))
