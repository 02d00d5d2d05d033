use Rattle.zone_machine.proofs.Sizes.{record-asked, record-numbered}
use Rattle.zone_machine.proofs.machine.needs.record_need.Goals as goal

pub returns-clause-same : goal.returns-clause-same
returns-clause-same c = record-asked c.record_length.result c.record.result.now c.args.row.now c.record.ensures.same c.record_length.ensures.same

pub returns-clause-numbered : goal.returns-clause-numbered
returns-clause-numbered c = record-numbered c.record_length.result c.record.result.now c.args.row.now c.record.ensures.same c.record_length.ensures.same
