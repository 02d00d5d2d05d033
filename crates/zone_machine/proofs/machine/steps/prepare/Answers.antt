use Rattle.std.proofs.Common.{◌∙◌, ap, subst, sym}
use Rattle.std.specs.Prelude.{nat_eq}
use Rattle.zone_pools.specs.Owners.{owner}
use Rattle.zoneadmd_steps.proofs.Results.{on_err, on_ok_both}
use Rattle.zoneadmd_steps.specs.Arrivals.{in_kernel}
use Rattle.zone_machine.proofs.Acting.{alike_both, alike_does, on_ok_always, same_sessions}
use Rattle.zone_machine.proofs.Rooms_laws.{room_came}
use Rattle.zone_machine.specs.Code.Cells.{Does, is_up_in, outside_in}
use Rattle.zone_machine.specs.Code.Rooms.{Alike}
use Rattle.zone_cases.specs.State.Worlds.{World}
use Rattle.zone_cases.specs.declared.cell.Cell.{Cell}
use Rattle.zone_machine.specs.Machine.Common.{Common, came_common}
use Rattle.zone_cases.specs.State.Decisions.{Decision, act_of, after_came_world}
use Rattle.zone_machine.specs.declared.machine.shared.Shared.{Shared}
use Rattle.zone_machine.proofs.machine.steps.prepare.Goals as goal

pub returns-clause-does : goal.returns-clause-does
returns-clause-does c =
    let z = c.args.zone.now in let g = c.args.grant in
    let c0 = c.args.cell.now in let c1 = c.make_room.new.cell in let c2 = c.come.new.cell in
    let s0 = c.args.shared.now in let s1 = c.make_room.new.shared in let s2 = c.come.new.shared in
    on_ok_both c.come.result _ _ _
    (λ does is. alike_does z _ _ c0 c1 c2 s0 s1 s2 c.in_ok-make_room.ensures.alike
    (subst (λ (d : Decision). Does z (after_came_world (in_kernel (act_of d g).came)) (came_common z (in_kernel (act_of d g).came)) c1 s1 c2 s2) is does))
    c.come.ensures.does (on_ok_always c.come.result _ c.in_ok-make_room.ensures.same)

pub returns-clause-room : goal.returns-clause-room
returns-clause-room c =
    on_ok_always c.come.result _
    (room_came c.args.zone.now c.args.case.now c.make_room.new.cell c.come.new.cell c.make_room.new.shared c.come.new.shared c.come.ensures.cell c.come.ensures.shared c.come.ensures.objects c.in_ok-make_room.ensures.room)

pub returns-clause-sessions : goal.returns-clause-sessions
returns-clause-sessions c =
    on_ok_always c.come.result _
    (λ n. ap (λ (s : Shared). owner nat_eq s.sessions n) c.come.ensures.shared ∙ same_sessions c.args.cell.now c.make_room.new.cell c.args.shared.now c.make_room.new.shared c.in_ok-make_room.ensures.alike n)

pub returns-clause-memory : goal.returns-clause-memory
returns-clause-memory c =
    on_err c.come.result _ _
    (alike_both c.args.cell.now c.make_room.new.cell c.come.new.cell c.args.shared.now c.make_room.new.shared c.come.new.shared c.in_ok-make_room.ensures.alike) c.come.ensures.alike

pub returns-clause-up : goal.returns-clause-up
returns-clause-up c =
    on_ok_always c.come.result _
    (ap (λ (s : Shared). is_up_in s c.args.zone.now) c.come.ensures.shared ∙ ap (λ (k : Common). k.up c.args.zone.now) c.in_ok-make_room.ensures.alike.common)

pub returns-clause-active : goal.returns-clause-active
returns-clause-active c =
    on_ok_always c.come.result _
    (ap (λ (c : Cell). c.desk.active) c.come.ensures.cell ∙ ap (λ (w : World). w.desk.active) (c.in_ok-make_room.ensures.alike.world (outside_in c.args.zone.now c.args.shared.now)))

pub returns-clause-rows : goal.returns-clause-rows
returns-clause-rows c = on_ok_always c.come.result _ (ap (λ (s : Shared). s.rows.entries) c.come.ensures.shared ∙ c.in_ok-make_room.ensures.alike.rows)

pub returns-clause-used : goal.returns-clause-used
returns-clause-used c = on_ok_always c.come.result _ (ap (λ (s : Shared). s.used) c.come.ensures.shared ∙ ap (λ (k : Common). k.used) c.in_ok-make_room.ensures.alike.common)

pub returns-clause-alike : goal.returns-clause-alike
returns-clause-alike c =
    on_ok_always c.come.result _
    (λ none.
    let same = c.come.ensures.none (ap (λ (d : Decision). in_kernel (act_of d c.args.grant).came) c.in_ok-make_room.ensures.same ∙ none) in
    subst (λ (d : Cell). Alike c.args.cell.now c.args.shared.now d c.come.new.shared) (sym same.0)
    (subst (λ (t : Shared). Alike c.args.cell.now c.args.shared.now c.make_room.new.cell t) (sym same.1) c.in_ok-make_room.ensures.alike))
