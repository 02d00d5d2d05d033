use Rattle.std.proofs.Common.{◌≡◌, ◌∙◌, ◌∷◌, ◌+◌, ◌-◌, ap, drop, arith}
use Rattle.std.specs.List.{slice_get}
use Rattle.zoneadmd_steps.proofs.Aheads.{for_itself, last_is, next_claim, next_step}
use Rattle.zoneadmd_steps.specs.Turns.{next}
use Rattle.zoneadmd_steps.proofs.ahead.+find_ahead.Goals as goal

pub returns-in-Some-last-clause-next : goal.returns-in-Some-last-clause-next
returns-in-Some-last-clause-next t c =
    let rest = drop (c.args.at + 1) c.args.steps.now in
    let last = c.in-Some-last.ensures.last in
    λ o ms cs.
    next_claim o (drop c.args.at c.args.steps.now) rest c.in-Release.field-0 c.in-Some-last.claim.now
    (c.step_at.ensures.rest ∙ ap (λ s. s ∷ rest) c.in-Release.is)
    (last_is o.claims last.0 c.in-Some-last.claim.now (cs ∙ last.1))

pub returns-in_default : goal.returns-in_default
returns-in_default t c =
    let rest = drop (c.args.at + 1) c.args.steps.now in
    let back : c.args.at + 1 - 1 ≡ c.args.at = omega arith in
    record {
      next = λ o ms cs. ap (next o) c.step_at.ensures.rest ∙ next_step o c.step_at.result.now rest c.in_default.not-Unmount c.in_default.not-Release;
      planned = (omega arith, ap (slice_get c.args.steps.now) back ∙ c.step_at.ensures.there, for_itself c.step_at.result.now c.in_default.not-Unmount c.in_default.not-Release);
    }
