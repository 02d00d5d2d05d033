use Rattle.std.proofs.Common.{ap, sym, ◌∙◌}
use Rattle.std.specs.Option.{unwrap_or}
use Rattle.zone_machine.proofs.Claim_doing.{does_released}
use Rattle.zoneadmd_steps.proofs.Aheads.{last_is}
use Rattle.zoneadmd_steps.specs.declared.requests.Gone.TheVariants.{Claim as Gone_claim}
use Rattle.zone_machine.proofs.machine.objects.release_last.Goals as goal

pub returns-clause-does : goal.returns-clause-does
returns-clause-does c = λ z n.
    does_released z c.args.cell.now c.args.shared.now c.release_last.new.self c.release_last.new.shared c.release_last.result
    c.release_last.ensures.last c.release_last.ensures.once c.release_last.ensures.nothing c.release_last.ensures.freed n

pub returns-clause-gone : goal.returns-clause-gone
returns-clause-gone c = ap Gone_claim (ap (λ o. unwrap_or o c.in-Some.claim) (sym (last_is _ _ c.in-Some.claim c.in-Some.ensures.last) ∙ c.requires))
