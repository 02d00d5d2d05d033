use Rattle.std.proofs.Common.{None, ap, refl, ◌∙◌}
use Rattle.zone_machine.proofs.Local_doing.{after, settled}
use Rattle.zone_machine.proofs.Turned_laws.{as_work, ends_no_process, turn_told, turn_works}
use Rattle.zone_cases.specs.Code.Cells.{cell_world}
use Rattle.zone_cases.specs.State.Decisions.{effects, turned}
use Rattle.zone_pools.specs.declared.grant.Grant.TheVariants.{Nothing}
use Rattle.zoneadmd_steps.specs.Code.Cases.{turn_decision_of}
use Rattle.zoneadmd_steps.specs.Code.Desks.{as_desk}
use Rattle.zone_machine.proofs.machine.local_turns.do_local.Goals as goal

pub returns-clause-reply : goal.returns-clause-reply
returns-clause-reply c =
    turn_told (turn_decision_of c.room_for.new.cell.desk c.args.case) (turn_decision_of c.args.cell.now.desk c.args.case) (as_desk c.settle_turn-work.new.desk) c.settle_turn-work.result c.change_own-gone.result c.with_gone.result
    c.with_gone.ensures c.change_own-gone.ensures.gone c.settle_turn-work.ensures.act c.room_for.ensures.seen

pub returns-clause-done : goal.returns-clause-done
returns-clause-done c = λ t is out.
    let mid = c.room_for.new.cell in let work = c.settle_turn-work in
    after out c.args.cell.now mid c.change_own-gone.new.cell work.new.desk work.result.objects t (c.room_for.ensures.same out) c.change_own-gone.ensures.same c.change_own-gone.ensures.processes c.change_own-gone.ensures.devices c.change_own-gone.ensures.mounts c.change_own-gone.ensures.ids
    (settled (effects turned (turn_decision_of mid.desk c.args.case)) t (as_desk work.new.desk) (as_work work.result) (cell_world out mid) (ap (effects turned) c.room_for.ensures.seen ∙ is) refl refl (ends_no_process work.result.ended)
    (turn_works None (turn_decision_of mid.desk c.args.case) Nothing (cell_world out mid) (as_desk work.new.desk) work.result work.ensures.act))

pub change_own-gone-requires-clause-own : goal.change_own-gone-requires-clause-own
change_own-gone-requires-clause-own c = c.settle_turn-work.ensures.own c.requires.own
