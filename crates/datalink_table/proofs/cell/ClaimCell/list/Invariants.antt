use Rattle.std.proofs.Common.{◌≡◌, take}
use Rattle.datalink_table.specs.Claims.{items_of}
use Rattle.datalink_table.proofs.cell.ClaimCell.list.Given as goal

abbrev pub invariant-loop-claim : goal.invariant-loop-claim
invariant-loop-claim l = l.items ≡ items_of l.kind (take l.claim-index l.self.claims)
