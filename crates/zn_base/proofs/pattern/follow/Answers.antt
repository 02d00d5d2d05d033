use Rattle.std.proofs.Common.{◌∙◌, arith}
use Rattle.zn_base.proofs.Patterns.{fits_from-star, star_fits_from-here, fits_from-one, same_from_true}
use Rattle.zn_base.proofs.pattern.follow.Goals as goal

pub returns-then-pattern-at-eq42 : goal.returns-then-pattern-at-eq42
returns-then-pattern-at-eq42 c =
    let star = fits_from-star c.args.pattern.now c.loop-at.at c.args.path.now c.loop-at.place c.loop-at-test.true c.if-pattern-at-eq42.true in
    let same = c.loop-at.invariant.same ∙ star.0 in (
      omega arith,
      omega arith,
      omega arith,
      omega arith,
      same,
      same_from_true _ _ (λ h. star.1 (c.loop-at.invariant.onward h)) (λ h. star_fits_from-here _ _ _ _ (same ∙ h)),
    )

pub loop-at-preserved : goal.loop-at-preserved
loop-at-preserved c =
    let one = fits_from-one c.args.pattern.now c.loop-at.at c.args.path.now c.loop-at.place c.in-Some.behind c.loop-at-test.true c.if-pattern-at-eq42.false (omega arith) c.in-Some.ensures in
    record {
      same = c.loop-at.invariant.same ∙ one.0;
      onward = λ h. one.1 (c.loop-at.invariant.onward h);
      after = omega (arith, c.in-Some.ensures.1);
      after_begin = omega arith;
      within = c.in-Some.ensures.2;
      within_path = omega arith;
    }
