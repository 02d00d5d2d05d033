use Rattle.session_records.proofs.Keeping.{partial-record, record-keeps, whole-record}
use Rattle.session_records.proofs.laws.records_keep_to_scripts.Goals as goal

pub returns-clause-part : goal.returns-clause-part
returns-clause-part c = partial-record

pub returns-clause-keeps : goal.returns-clause-keeps
returns-clause-keeps c = record-keeps

pub returns-clause-whole : goal.returns-clause-whole
returns-clause-whole c = whole-record
