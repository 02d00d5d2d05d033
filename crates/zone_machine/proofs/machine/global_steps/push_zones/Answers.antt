use Rattle.std.proofs.Common.{◌++◌, append_assoc, ap, sym, take, ◌∙◌}
use Rattle.std.specs.Prelude.{slice_get}
use Rattle.zone_machine.proofs.Shown_laws.{shown_next}
use Rattle.zone_machine.specs.Code.Shown_zones.{shown_entries, shown_entry}
use Rattle.zone_machine.proofs.machine.global_steps.push_zones.Goals as goal

pub loop-at-preserved : goal.loop-at-preserved
loop-at-preserved c =
    let o = c.args.options in let t = c.args.shown.now in let es = c.args.shared.now.rows.entries in let i = c.loop-at.at in
    c.in_ok-push_zone.ensures
    ∙ (ap (λ l. l ++ shown_entry o t (slice_get es i)) c.loop-at.invariant
    ∙ (append_assoc c.args.lines.now (shown_entries o t (take i es)) (shown_entry o t (slice_get es i))
    ∙ ap (λ l. c.args.lines.now ++ l) (sym (shown_next o t es i))))
