use Rattle.std.proofs.Common.{sym, subst, ◌∙◌}
use Rattle.zoneadmd_steps.specs.Code.Cases.{IsFreeFor}
use Rattle.zone_machine.proofs.machine.steps.granted_case.Goals as goal

pub returns-in-Ok-clause-case : goal.returns-in-Ok-clause-case
returns-in-Ok-clause-case c =
    let h = c.in_ok-case.ensures in let d = c.args.cell.now.desk in
    record {
      decided = h.decided ∙ sym (c.number.ensures.decision d);
      of = c.number.ensures.of d h.of;
      named = c.number.ensures.named c.args.zone.now h.named;
      free = subst (λ o. IsFreeFor o c.args.cell.now.mounts.list c.args.cell.now.claims.claims) (sym c.number.ensures.objects) h.free;
    }
