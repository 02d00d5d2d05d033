use Rattle.std.proofs.Common.{◌∙◌, ap, sym}
use Rattle.std.specs.Option.{option_map}
use Rattle.zoneadmd_steps.proofs.Recording.{if_none}
use Rattle.zoneadmd_steps.specs.Code.Desks.{as_desk, as_job}
use Rattle.zoneadmd_steps.specs.Code.Recordings.{records_next}
use Rattle.zoneadmd_steps.proofs.desks.Desk.records_next.Goals as goal

pub returns-in-Some-clause-none : goal.returns-in-Some-clause-none
returns-in-Some-clause-none c =
    if_none (as_desk c.args.self.now) c.args.mounts.now.list c.args.claims.now.claims c.job_records.result
    (λ o ms cs. c.job_records.ensures o ms cs ∙ ap (λ q. records_next o (option_map as_job q)) (sym c.in-Some.is))

pub returns-in-None-clause-none : goal.returns-in-None-clause-none
returns-in-None-clause-none c =
    if_none (as_desk c.args.self.now) c.args.mounts.now.list c.args.claims.now.claims _ (λ o ms cs. ap (λ q. records_next o (option_map as_job q)) (sym c.in-None.is))
