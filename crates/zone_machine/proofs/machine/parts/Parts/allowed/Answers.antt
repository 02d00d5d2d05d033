use Rattle.std.proofs.Common.{None, refl, sym, ◌∙◌}
use Rattle.zone_machine.proofs.Stepping.{IsTaken-global, IsTaken-whole}
use Rattle.zone_pools.specs.declared.grant.Grant.TheVariants.{Nothing}
use Rattle.zone_machine.proofs.machine.parts.Parts.allowed.Goals as goal

pub returns-in-Global-clause-ok : goal.returns-in-Global-clause-ok
returns-in-Global-clause-ok c =
    IsTaken-global c.args.self.now c.args.event.now (sym (c.read_event-read.ensures.subject c.args.self.now.shared) ∙ (sym c.in_ok-zone.ensures ∙ c.in-Global.is)) None Nothing (λ P z. refl)

pub returns-in-Whole-clause-ok : goal.returns-in-Whole-clause-ok
returns-in-Whole-clause-ok c =
    IsTaken-whole c.args.self.now c.args.event.now (sym (c.read_event-read.ensures.subject c.args.self.now.shared) ∙ (sym c.in_ok-zone.ensures ∙ c.in-Whole.is)) None Nothing (λ P z. refl)
