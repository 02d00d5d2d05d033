use Rattle.config_terms.proofs.Resources_edited.{all_edits}
use Rattle.config_terms.proofs.laws.resources_are_edited.Goals as goal

pub returns : goal.returns
returns c = all_edits
