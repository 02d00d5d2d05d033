use Rattle.std.proofs.Common.{◌++◌, ap, ◌∙◌}
use Rattle.zone_machine.proofs.Listing_laws.{lists-zones}
use Rattle.zone_machine.specs.Code.Listed.{told_entries}
use Rattle.zone_machine.proofs.machine.parts.Parts.list_zones.Goals as goal

pub returns : goal.returns
returns c = λ S h.
    let o = c.args.options in let p = c.args.self.now in
    c.in_ok-push_zones.ensures ∙ (ap (λ l. l ++ told_entries o p p.shared.rows.entries) c.in_ok-lines.ensures ∙ lists-zones o p S h)
