use Rattle.std.proofs.Common.{◌∙◌, ◌-◌, ap, drop, refl}
use Rattle.std.specs.Option.{option_map}
use Rattle.zone_config.proofs.Lists.{all-at}
use Rattle.zoneadmd_steps.proofs.Halting.{last_claim, next_of_halt}
use Rattle.zoneadmd_steps.specs.Code.Cases.{as_objects}
use Rattle.zoneadmd_steps.specs.Code.Desks.{as_desk, as_job}
use Rattle.zoneadmd_steps.specs.Code.Shareds.{seen_by}
use Rattle.zoneadmd_steps.specs.Plans.{has_stored_state}
use Rattle.zoneadmd_steps.specs.Turns.{shared_next}
use Rattle.zoneadmd_steps.proofs.turn_cases.plan_turn.Goals as goal

pub step_case-requires-clause-stored : goal.step_case-requires-clause-stored
step_case-requires-clause-stored c = all-at has_stored_state c.as_slice.result.now (c.in-Step.next - 1) c.in-Step.planned.now c.as_slice.ensures.stored c.in-Step.ensures.planned.1

pub returns-in_ok-case-in-Step-clause-of : goal.returns-in_ok-case-in-Step-clause-of
returns-in_ok-case-in-Step-clause-of c = c.go_on.ensures.of c.args.desk.now c.args.job.now c.requires.job c.in_ok-case-in-Step.ensures.of

pub returns-in_ok-case-in-Step-clause-named : goal.returns-in_ok-case-in-Step-clause-named
returns-in_ok-case-in-Step-clause-named c = c.go_on.ensures.named c.args.zone.now c.in_ok-case-in-Step.ensures.named

pub returns-in_ok-case-in-Step-clause-room : goal.returns-in_ok-case-in-Step-clause-room
returns-in_ok-case-in-Step-clause-room c = λ halt h.
    let j = c.args.job.now in
    let is = rw c.as_slice.ensures.steps at c.in-Step.ensures.next in
    c.go_on.ensures.room (c.in_ok-case-in-Step.ensures.room
    (next_of_halt (as_objects c.args.objects) (drop j.at j.steps) c.in-Step.planned.now (drop c.in-Step.next j.steps) h (is (as_objects c.args.objects) refl refl)))

pub returns-in_err-case-in-Step-clause-room : goal.returns-in_err-case-in-Step-clause-room
returns-in_err-case-in-Step-clause-room c = λ halt h.
    let j = c.args.job.now in
    let is = rw c.as_slice.ensures.steps at c.in-Step.ensures.next in
    absurd (c.in_err-case-in-Step.ensures.room
    (next_of_halt (as_objects c.args.objects) (drop j.at j.steps) c.in-Step.planned.now (drop c.in-Step.next j.steps) h (is (as_objects c.args.objects) refl refl)))

pub returns-in-Claim-clause-decides : goal.returns-in-Claim-clause-decides
returns-in-Claim-clause-decides c =
    let d = c.args.desk.now in
    let j = c.args.job.now in
    let v = seen_by d (option_map (λ r. r.now) c.args.row) c.args.objects c.args.system in
    let is = rw c.as_slice.ensures.steps at c.in-Claim.ensures.next in
    ap (shared_next v (as_job j)) (is (as_objects c.args.objects) refl refl)
    ∙ (c.release.ensures.decides (as_desk d) j ∙ c.go_on-in-Claim.ensures.decides d j c.requires.job)

pub returns-in-Claim-clause-of : goal.returns-in-Claim-clause-of
returns-in-Claim-clause-of c = c.go_on-in-Claim.ensures.of c.args.desk.now c.args.job.now c.requires.job (c.release.ensures.of c.args.job.now c.requires.goes)

pub returns-in-Claim-clause-free : goal.returns-in-Claim-clause-free
returns-in-Claim-clause-free c = λ ms.
    let j = c.args.job.now in
    let o = as_objects c.args.objects in
    let is = rw c.as_slice.ensures.steps at c.in-Claim.ensures.next in
    c.go_on-in-Claim.ensures.free ms o.claims (c.release.ensures.free ms o.claims (last_claim o (drop j.at j.steps) c.in-Claim.claim.now (drop c.in-Claim.at j.steps) (is o refl refl)))
