use Rattle.std.proofs.Common.{arith}
use Rattle.zone_config.proofs.ResourceEdits.{apart_if_kept, count_of_within}
use Rattle.zone_config.proofs.config.ZoneConfig.find_resource.Goals as goal

pub overflow_cast-result : goal.overflow_cast-result
overflow_cast-result c = omega (arith, count_of_within c.args.kind _ _ c.self.invariant, c.in_ok-place.ensures.inside)

pub find-requires : goal.find-requires
find-requires c = apart_if_kept c.args.kind _ _ c.self.invariant
