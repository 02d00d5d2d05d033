use Rattle.std.proofs.Common.{sym, ◌∙◌}
use Rattle.zone_machine.proofs.Standing.{subject-stands}
use Rattle.zone_machine.proofs.machine.shared.Shared.subject.Goals as goal

pub returns-clause-ok : goal.returns-clause-ok
returns-clause-ok c = λ S h. c.in_ok-subject.ensures ∙ (c.read_event.ensures.subject c.args.self.now ∙ sym (subject-stands S c.args.self.now c.args.event.now h))
