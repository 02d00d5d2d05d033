use Rattle.datalink_table.specs.Claims.{claim_of}
use Rattle.datalink_table.proofs.Sharing.{took}
use Rattle.datalink_table.proofs.cell.ClaimCell.claim.Goals as goal

pub returns-clause-taken : goal.returns-clause-taken
returns-clause-taken c =
    took c.in_ok-ready.ready.zone c.args.zone.now c.in_ok-ready.ready.claim (claim_of c.args.kind c.args.item) c.args.shared.now c.reserve.new.shared c.hold.new.shared
    c.in_ok-ready.ensures.zone c.in_ok-ready.ensures.claim c.reserve.ensures.alike c.hold.ensures.taken
