use Rattle.std.proofs.Common.{◌∙◌, ap}
use Rattle.datalink_table.specs.Claims.{holds}
use Rattle.datalink_table.proofs.Kept.{once-last}
use Rattle.datalink_table.proofs.cell.ClaimCell.push.Goals as goal

pub invariant_of-self : goal.invariant_of-self
invariant_of-self c = rw c.in-Ok.ensures.items (once-last c.args.claim _ c.self.invariant (ap (λ s. holds c.args.claim s.claims) c.self.view_is ∙ c.requires.fresh))
