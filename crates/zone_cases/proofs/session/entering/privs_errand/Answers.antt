use Rattle.std.proofs.Common.{◌∙◌, ◌∷◌, [], ap, sym}
use Rattle.zone_cases.specs.Code.Cases.{decision_of}
use Rattle.zone_cases.specs.Session.Logins.{alone, with_status}
use Rattle.zone_cases.specs.declared.cases.Case.TheVariants.{Tells}
use Rattle.zone_cases.specs.declared.replies.Body.TheVariants.{Lines}
use Rattle.zone_cases.proofs.session.entering.privs_errand.Goals as goal

pub returns-clause-decides : goal.returns-clause-decides
returns-clause-decides c = λ n d.
    ap (λ case. with_status 0 (alone (decision_of d case))) (sym (c.in_ok-case.ensures ∙ ap (λ line. Tells (Lines (line ∷ []))) (c.from_vec.ensures ∙ c.in_ok-print.ensures)))
    ∙ c.errand_by.ensures.decides n d
