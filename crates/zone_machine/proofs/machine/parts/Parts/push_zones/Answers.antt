use Rattle.std.proofs.Common.{◌++◌, append_assoc, ap, sym, take, ◌∙◌}
use Rattle.std.specs.Prelude.{slice_get}
use Rattle.zone_machine.proofs.Listing_laws.{told_next}
use Rattle.zone_machine.specs.Code.Listed.{told_entries, told_entry}
use Rattle.zone_machine.proofs.machine.parts.Parts.push_zones.Goals as goal

pub loop-at-preserved : goal.loop-at-preserved
loop-at-preserved c =
    let o = c.args.options in let p = c.args.self.now in let es = p.shared.rows.entries in let i = c.loop-at.at in
    c.in_ok-push_zone.ensures
    ∙ (ap (λ l. l ++ told_entry o p (slice_get es i)) c.loop-at.invariant
    ∙ (append_assoc c.args.lines.now (told_entries o p (take i es)) (told_entry o p (slice_get es i))
    ∙ ap (λ l. c.args.lines.now ++ l) (sym (told_next o p es i))))
