use Rattle.std.proofs.Common.{◌≡◌, ◌∙◌, Err, refl, sym}
use Rattle.zone_pools.specs.Decisions.{number_in}
use Rattle.zone_machine.proofs.Doing_laws.{sits_alone}
use Rattle.zone_cases.proofs.Gone_laws.{nothing_told}
use Rattle.zone_machine.proofs.machine.settling.remove.Goals as goal

pub returns-in-Err-clause-works : goal.returns-in-Err-clause-works
returns-in-Err-clause-works c = λ n v d desk.
    let is : number_in c.args.grant ≡ Err c.in-Err.pool = sym c.number_in.ensures ∙ c.in-Err.is in
    rw (sym c.into_inner-owner.ensures, is, c.denied-in-Err.ensures)
    (record { came = refl; reply = nothing_told _; world = sits_alone n v d _ c.denied.result c.denied.ensures.sits desk })
