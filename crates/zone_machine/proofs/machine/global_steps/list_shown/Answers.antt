use Rattle.std.proofs.Common.{◌++◌, ap, ◌∙◌}
use Rattle.zone_machine.proofs.Shown_laws.{lists-shown}
use Rattle.zone_machine.specs.Code.Shown_zones.{shown_entries}
use Rattle.zone_machine.proofs.machine.global_steps.list_shown.Goals as goal

pub returns : goal.returns
returns c = λ S shared shows.
    let o = c.args.options in let t = c.args.shown.now in let s = c.args.shared.now in
    c.in_ok-push_zones.ensures ∙ (ap (λ l. l ++ shown_entries o t s.rows.entries) c.in_ok-lines.ensures ∙ lists-shown o t S s shared shows)
