use Rattle.std.proofs.Common.{◌∙◌, drop, reverse, sym}
use Rattle.zoneadmd_steps.proofs.Latest.{failing, latest}
use Rattle.zoneadmd_steps.proofs.local_cases.latest.Goals as goal

pub returns-in-Some-clause-some : goal.returns-in-Some-clause-some
returns-in-Some-clause-some c =
    let j = c.args.job.now in
    let front = c.in-Some.field-0-1.now in
    failing j.failure (drop j.at j.steps) (reverse j.made.items) (reverse front) c.in-Some.shown.now c.requires (latest j.made.items front c.in-Some.shown.now (sym c.deref.ensures.value ∙ c.in-Some.ensures.cases.0))
