use Rattle.std.proofs.Common.{◌∙◌, ap}
use Rattle.zone_cases.specs.Code.Cases.{decision_of}
use Rattle.zone_cases.specs.Session.Logins.{alone, with_status}
use Rattle.zone_cases.proofs.session.entering.errand_by.Goals as goal

pub returns-in-Says-clause-decides : goal.returns-in-Says-clause-decides
returns-in-Says-clause-decides c = λ n d. ap (λ case. with_status 0 (alone (decision_of d case))) c.in-Says.is ∙ c.errand_by_head.ensures.decides n d
