use Rattle.std.proofs.Common.{None, ap, sym, ◌∙◌}
use Rattle.zoneadmd_steps.proofs.Results.{if_ok}
use Rattle.zone_machine.proofs.Stepping.{heard-at, heard-new, same_none, taken_read}
use Rattle.zone_cases.specs.Code.Cells.{world_or_empty}
use Rattle.zone_machine.specs.Code.Reads.{decide_read}
use Rattle.zone_machine.proofs.machine.parts.Parts.zone_grant.Goals as goal

pub returns-in-Some-clause-ok : goal.returns-in-Some-clause-ok
returns-in-Some-clause-ok c =
    let m = c.args.self.now in let z = c.args.zone.now in
    if_ok c.cell_grant.result _ _
    (λ g takes. taken_read m z c.args.event.now c.in-Some.cell.now (λ v. decide_read v c.args.read) c.requires.of (λ out. ap (world_or_empty out) (sym c.in-Some.ensures.value)) c.requires.decides None g takes)
    c.cell_grant.ensures.ok

pub returns-in-None-clause-ok : goal.returns-in-None-clause-ok
returns-in-None-clause-ok c =
    let m = c.args.self.now in let z = c.args.zone.now in
    if_ok c.cell_grant-in-None.result _ _
    (λ g takes. taken_read m z c.args.event.now c.new-cell.result (λ v. decide_read v c.args.read) c.requires.of (same_none m z c.new-cell.result (sym c.in-None.ensures.value) c.new-cell.ensures) c.requires.decides None g takes)
    c.cell_grant-in-None.ensures.ok

pub cell_grant-requires-clause-hook : goal.cell_grant-requires-clause-hook
cell_grant-requires-clause-hook c = λ turn.
    heard-at c.args.self.now c.args.event.now c.args.zone.now c.in-Some.cell.now c.args.hook c.requires.hook c.requires.of (sym c.in-Some.ensures.value) (sym c.requires.turn ∙ turn)

pub cell_grant-requires-in-None-clause-hook : goal.cell_grant-requires-in-None-clause-hook
cell_grant-requires-in-None-clause-hook c = λ turn. heard-new c.args.self.now.shared.brands c.new-cell.result c.new-cell.ensures
