use Rattle.std.proofs.Common.{◌≡◌, ◌∙◌, Ok, sym}
use Rattle.zone_pools.specs.Decisions.{number_in}
use Rattle.zone_machine.proofs.machine.settling.run_errand.Goals as goal

pub returns-in-Ok-clause-works : goal.returns-in-Ok-clause-works
returns-in-Ok-clause-works c = λ n v d e desk.
    let is : number_in c.args.grant ≡ Ok c.in-Ok.pid = sym c.number_in.ensures ∙ c.in-Ok.is in
    rw (sym c.into_inner-errand.ensures, is) (c.errand_work.ensures.works n v e desk)
