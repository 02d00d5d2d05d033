use Rattle.std.proofs.Common.{◌∙◌, ap, sym}
use Rattle.datalink_table.specs.Claims.{each_once}
use Rattle.datalink_table.proofs.Kept.{last_apart, once-but_last}
use Rattle.datalink_table.proofs.cell.ClaimCell.release_last.Goals as goal

pub invariant_of-self-2 : goal.invariant_of-self-2
invariant_of-self-2 c = once-but_last c.in_ok-claim.claim c.pop.new.self.items (sym (ap each_once c.in_ok-claim.ensures.items) ∙ c.self.invariant)

pub returns-clause-once : goal.returns-clause-once
returns-clause-once c = last_apart c.in_ok-claim.claim c.pop.new.self.items (sym (ap each_once c.in_ok-claim.ensures.items) ∙ c.self.invariant)
