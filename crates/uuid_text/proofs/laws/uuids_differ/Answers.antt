use Rattle.uuid_text.proofs.Texts.{uuid_of_text}
use Rattle.uuid_text.proofs.laws.uuids_differ.Goals as goal

pub returns : goal.returns
returns c = uuid_of_text
