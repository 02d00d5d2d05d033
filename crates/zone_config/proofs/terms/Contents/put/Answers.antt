use Rattle.zone_config.proofs.PropertyEdits.{own_path_given}
use Rattle.zone_config.proofs.terms.Contents.put.Goals as goal

pub path_kept-requires : goal.path_kept-requires
path_kept-requires c = rw c.bytes.ensures.bytes (own_path_given _ _ c.in-Zonepath.is c.requires)
