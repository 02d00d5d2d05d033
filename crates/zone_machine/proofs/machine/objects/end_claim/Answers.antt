use Rattle.zone_machine.proofs.Claim_doing.{does_released}
use Rattle.zone_machine.proofs.machine.objects.end_claim.Goals as goal

pub returns-clause-does : goal.returns-clause-does
returns-clause-does c = λ z n.
    does_released z c.args.cell.now c.args.shared.now c.release_last.new.self c.release_last.new.shared c.release_last.result
    c.release_last.ensures.last c.release_last.ensures.once c.release_last.ensures.nothing c.release_last.ensures.freed n
