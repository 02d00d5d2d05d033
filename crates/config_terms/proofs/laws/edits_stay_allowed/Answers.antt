use Rattle.config_terms.proofs.By_kind.{empty_allowed}
use Rattle.config_terms.proofs.Staying.{edits_stay}
use Rattle.config_terms.proofs.laws.edits_stay_allowed.Goals as goal

pub returns : goal.returns
returns c = record { empty = empty_allowed; edited = edits_stay }
