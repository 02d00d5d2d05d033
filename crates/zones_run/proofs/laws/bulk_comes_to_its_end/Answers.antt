use Rattle.zones_run.proofs.Bulk_lines.{bulk_whole}
use Rattle.zones_run.proofs.laws.bulk_comes_to_its_end.Goals as goal

pub returns : goal.returns
returns c = bulk_whole
