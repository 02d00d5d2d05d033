use Rattle.std.proofs.Common.{arith, ◌∙◌}
use Rattle.zone_config.proofs.Removing.{next_tested, next_there, untested, untested_count}
use Rattle.zone_config.proofs.removal.remove_all.Goals as goal

pub loop-place-init : goal.loop-place-init
loop-place-init c = record {
  few = c.count_of-place.ensures.bound;
  inside = omega (arith, untested_count c.args.kind c.args.config.now c.deref.result.now c.count_of-place.result c.deref.ensures c.count_of-place.ensures.count);
  tested = untested c.args.kind c.args.wanted.now c.args.config.now c.deref.result.now c.count_of-place.result c.deref.ensures c.count_of-place.ensures.count;
}

pub remove_match_at-requires-clause-inside : goal.remove_match_at-requires-clause-inside
remove_match_at-requires-clause-inside c =
    next_there c.args.kind c.args.wanted.now c.loop-place.place c.args.config.now c.loop-place.config c.loop-place-test.true c.loop-place.invariant.inside c.loop-place.invariant.tested

pub loop-place-preserved : goal.loop-place-preserved
loop-place-preserved c = record {
  few = omega arith;
  inside = omega arith;
  tested = c.remove_match_at.ensures
      ∙ next_tested c.args.kind c.args.wanted.now c.loop-place.place c.args.config.now c.loop-place.config c.loop-place-test.true c.loop-place.invariant.inside c.loop-place.invariant.tested;
}
