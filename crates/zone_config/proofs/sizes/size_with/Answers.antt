use Rattle.zone_config.proofs.PropertyEdits.{size_with}
use Rattle.zone_config.proofs.sizes.size_with.Goals as goal

pub overflow_sub-result : goal.overflow_sub-result
overflow_sub-result c = rw (c.setting_length-line.ensures.same, c.name.ensures.name, c.shown.ensures.text) (size_with _ _ _ _ c.requires.kept c.requires.shows).within
