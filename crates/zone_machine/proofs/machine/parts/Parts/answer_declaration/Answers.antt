use Rattle.std.proofs.Common.{ap, refl, rules, ◌∙◌}
use Rattle.zone_machine.proofs.Stepping.{IsMisfitUnder-whole, IsStep-whole, IsTaken-whole, left_so}
use Rattle.zone_cases.specs.State.Decisions.{head_of, says}
use Rattle.zone_cases.specs.declared.events.Event.TheVariants.{System}
use Rattle.zone_machine.proofs.machine.parts.Parts.answer_declaration.Goals as goal

pub returns-in_err-grant-clause-fault : goal.returns-in_err-grant-clause-fault
returns-in_err-grant-clause-fault c =
    left_so c.from_residual.result c.args.stated c.args.self.now (System c.args.what.now) (search rules) (λ bad. IsMisfitUnder-whole c.args.self.now (System c.args.what.now) refl c.args.stated c.in_err-grant.ensures.misfit.1)

pub returns-clause-ok : goal.returns-clause-ok
returns-clause-ok c = λ S h. record {
  takes = IsTaken-whole c.args.self.now (System c.args.what.now) refl c.args.stated c.in_ok-grant.grant c.in_ok-grant.ensures.takes S h;
  answers = IsStep-whole c.args.self.now (System c.args.what.now) refl c.in_ok-grant.grant c.declared_reply.result c.declare.new.shared (λ S. refl)
      (c.declared_reply.ensures ∙ ap (λ r. says (head_of r)) c.in_ok-refusal.ensures.refusal) c.in_ok-refusal.ensures.declared S h;
}
