use Rattle.zone_machine.proofs.Local_doing.{answered-same, done-local, none-local}
use Rattle.zoneadmd_steps.specs.Code.Cases.{turn_decision_of}
use Rattle.zone_machine.proofs.machine.local_turns.local_turn.Goals as goal

pub returns-in_ok-reply-in-Ok-clause-some : goal.returns-in_ok-reply-in-Ok-clause-some
returns-in_ok-reply-in-Ok-clause-some c =
    done-local c.args.zone.now c.args.cell.now c.do_local.new.cell c.args.hook _ (turn_decision_of c.args.cell.now.desk c.in-Some.case) (rw c.in-Some.is at c.in_ok-case.ensures.some) (answered-same _ _ _ _ _ c.in-Ok.ensures.0 c.in-Ok.ensures.1 c.in_ok-reply-in-Ok.ensures.reply) c.in_ok-reply-in-Ok.ensures.done

pub returns-in_default-clause-none : goal.returns-in_default-clause-none
returns-in_default-clause-none c = λ is. none-local c.args.zone.now c.args.cell.now c.args.hook (c.in_ok-case.ensures.none c.in_default.is)
