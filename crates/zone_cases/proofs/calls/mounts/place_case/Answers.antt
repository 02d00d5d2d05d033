use Rattle.loopback_mounts.specs.Places.{place_at}
use Rattle.zone_cases.proofs.Mount_cases.{refused_place}
use Rattle.zone_cases.proofs.calls.mounts.place_case.Goals as goal

pub returns-in-Err-clause-decides : goal.returns-in-Err-clause-decides
returns-in-Err-clause-decides c =
    refused_place c.refused.result (place_at c.args.mounts.now.list c.args.path.now c.args.write) c.in-Err.fault c.in-Err.ensures c.refused.ensures.case c.refused.ensures.memory
