use Rattle.std.proofs.Common.{◌∙◌, ap}
use Rattle.zone_cases.specs.Session.Logins.{alone, with_status}
use Rattle.zone_cases.proofs.session.entering.told_errand.Goals as goal

pub returns-clause-decides : goal.returns-clause-decides
returns-clause-decides c = λ d v n p shows set.
    ap (λ decided. with_status 0 (alone decided)) (c.in_ok-call_case.ensures.decides d v n p shows set) ∙ c.errand_by.ensures.decides n d
