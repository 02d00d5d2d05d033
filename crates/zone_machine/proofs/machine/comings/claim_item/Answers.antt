use Rattle.zone_machine.proofs.Claim_doing.{does_claim}
use Rattle.zone_machine.proofs.Rooms_laws.{alike_claims}
use Rattle.zone_machine.proofs.machine.comings.claim_item.Goals as goal

pub returns-in-Ok-clause-does : goal.returns-in-Ok-clause-does
returns-in-Ok-clause-does c =
    does_claim c.args.zone.now c.args.cell.now c.args.shared.now c.claim.new.self c.claim.new.shared c.args.claim.now c.requires
    (rw (c.in-Ok.is, c.in_ok-item.ensures) at c.claim.ensures.taken) (rw (c.in-Ok.is, c.in_ok-item.ensures) at c.claim.ensures.claimed)

pub returns-in-Err-clause-alike : goal.returns-in-Err-clause-alike
returns-in-Err-clause-alike c = alike_claims c.args.cell.now c.args.shared.now c.claim.new.self c.claim.new.shared (rw c.in-Err.is at c.claim.ensures.same) (rw c.in-Err.is at c.claim.ensures.alike)
