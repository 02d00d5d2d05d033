use Rattle.std.proofs.Common.{◌∙◌, ap}
use Rattle.std.specs.Option.{option_map}
use Rattle.zoneadmd_steps.proofs.Goings.{going}
use Rattle.zoneadmd_steps.specs.Code.Cases.{heard, next_hook}
use Rattle.zoneadmd_steps.specs.Code.Desks.{as_desk, as_job}
use Rattle.zoneadmd_steps.proofs.local_cases.local_case.Goals as goal

pub returns-in-Some-2-clause-some : goal.returns-in-Some-2-clause-some
returns-in-Some-2-clause-some c =
    let some = rw c.in-Some-2.is at c.in_ok-case.ensures.some in
    λ brands x ms cs a.
    going c.args.desk.now c.in-Some.job c.in-Some-2.case brands x c.in-Some.is
    (some brands x (as_desk c.args.desk.now) ms cs (a ∙ ap (λ o. heard brands (next_hook x (option_map as_job o))) c.in-Some.is))
