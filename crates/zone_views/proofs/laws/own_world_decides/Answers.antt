use Rattle.std.proofs.Common.{ap, sym, ◌∙◌}
use Rattle.zone_machine.proofs.Own_worlds.{need-world, reply-world, world-one}
use Rattle.zone_machine.specs.Machine.Histories.{world_by}
use Rattle.zone_machine.specs.Machine.{subject}
use Rattle.zone_cases.specs.State.Worlds.{world}
use Rattle.zone_views.proofs.laws.own_world_decides.Goals as goal

pub returns-clause-reply : goal.returns-clause-reply
returns-clause-reply c = reply-world

pub returns-clause-need : goal.returns-clause-need
returns-clause-need c = need-world

pub returns-clause-after : goal.returns-clause-after
returns-clause-after c = λ z S T e g concerned same w.
    world-one z S e g ∙ (ap (λ s. world_by s z (world z S) e g) same ∙ (ap (λ w. world_by (subject T e) z w e g) w ∙ sym (world-one z T e g)))
