use Rattle.std.proofs.Common.{rules, ◌∙◌}
use Rattle.zone_machine.proofs.Stepping.{IsMisfitUnder-global, IsStep-global, IsTaken-global, left_so}
use Rattle.zone_machine.proofs.machine.parts.Parts.answer_global.Goals as goal

pub returns-in_err-grant-clause-fault : goal.returns-in_err-grant-clause-fault
returns-in_err-grant-clause-fault c =
    left_so c.from_residual-in_err-grant.result c.args.stated c.args.self.now c.args.event.now (search rules) (λ bad. IsMisfitUnder-global c.args.self.now c.args.event.now c.requires.of c.args.stated c.in_err-grant.ensures.misfit.1)

pub returns-clause-ok : goal.returns-clause-ok
returns-clause-ok c = λ S h. record {
  takes = IsTaken-global c.args.self.now c.args.event.now c.requires.of c.args.stated c.in_ok-grant.grant c.in_ok-grant.ensures.takes S h;
  answers = IsStep-global c.args.self.now c.args.event.now c.requires.of c.in_ok-grant.grant c.in_ok-reply.reply (λ S h. c.in_ok-reply.ensures S h ∙ c.requires.global S) S h;
}
