use Rattle.std.proofs.Common.{◌∙◌}
use Rattle.zone_machine.proofs.Shown_laws.{global-answers}
use Rattle.zone_machine.proofs.machine.global_steps.global_step.Goals as goal

pub returns-clause-ok : goal.returns-clause-ok
returns-clause-ok c = λ S shared shows of.
    let s = c.args.shared.now in
    global-answers S c.args.event of s c.args.shown.now c.in_ok-reply.reply shared shows (c.in_ok-reply.ensures S shared shows ∙ c.read_event.ensures.global S)
