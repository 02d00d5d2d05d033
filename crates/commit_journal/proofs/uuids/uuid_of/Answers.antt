use Rattle.std.proofs.Common.{ap, ◌∙◌}
use Rattle.commit_journal.specs.Uuids.{name_based, uuid_of}
use Rattle.commit_journal.proofs.uuids.uuid_of.Goals as goal
use Rattle.uuid.specs.Uuid.{namespace_dns}

pub returns : goal.returns
unfolding uuid_of
returns c = c.new_v5.ensures.value ∙ ap (name_based namespace_dns) (c.as_slice.ensures.value ∙ c.uuid_name-text.ensures)
