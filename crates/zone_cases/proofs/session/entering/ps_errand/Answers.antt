use Rattle.std.proofs.Common.{◌∙◌, ◌++◌, ◌∷◌, [], ap}
use Rattle.zone_cases.proofs.Newcomers.{listed}
use Rattle.zone_cases.proofs.session.entering.ps_errand.Goals as goal

pub returns-clause-decides : goal.returns-clause-decides
returns-clause-decides c = λ n p pid parent named.
    listed n p c.args.name c.push.new.self c.args.kernel.now.processes pid parent named
    (c.in_ok-push.ensures ∙ ap (λ rows. rows ++ record { pid = 0; parent = 0; name = c.args.name } ∷ []) c.in-Ok.ensures.rows)
