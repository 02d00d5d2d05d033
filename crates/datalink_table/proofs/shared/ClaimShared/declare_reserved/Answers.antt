use Rattle.std.proofs.Common.{◌∙◌, ap, sym}
use Rattle.std.specs.List.{count_by}
use Rattle.datalink_table.specs.Claims.{claim_of, is_of}
use Rattle.datalink_table.specs.Counts.{count_in}
use Rattle.datalink_table.specs.Shared.{is_declared}
use Rattle.datalink_table.proofs.Counting.{comes_last, counted, undeclared}
use Rattle.datalink_table.proofs.shared.ClaimShared.declare_reserved.Goals as goal

pub invariant_of-self : goal.invariant_of-self
invariant_of-self c = λ kind.
    let new = claim_of c.args.kind c.args.item in
    let keys = c.self.inside.declared.keys in
    let last = c.in-Ok.ensures.keys ∙ comes_last new keys (ap (is_declared new) c.self.view_is ∙ undeclared new c.args.self.now c.requires.allowed) in
    ap (count_in kind) c.add.ensures ∙ (counted new c.self.inside.counts keys c.self.invariant kind ∙ ap (count_by (is_of kind)) (sym last))
