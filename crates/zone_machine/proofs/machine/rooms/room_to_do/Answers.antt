use Rattle.zone_machine.proofs.Rooms_laws.{alike_console, alike_mounts, alike_then}
use Rattle.zone_machine.proofs.machine.rooms.room_to_do.Goals as goal

pub returns-in_err-room_at_console-clause-alike : goal.returns-in_err-room_at_console-clause-alike
returns-in_err-room_at_console-clause-alike c = alike_then _ _ _ _ _ _
    (alike_mounts c.args.cell.now c.room_for_objects.new.cell c.args.shared.now c.in_ok-room_for_objects.ensures.mounts c.in_ok-room_for_objects.ensures.same)
    (alike_console c.room_for_objects.new.cell c.room_at_console.new.cell c.args.shared.now c.in_err-room_at_console.ensures.world)

pub returns-clause-alike : goal.returns-clause-alike
returns-clause-alike c = alike_then _ _ _ _ _ _
    (alike_then _ _ _ _ _ _
    (alike_mounts c.args.cell.now c.room_for_objects.new.cell c.args.shared.now c.in_ok-room_for_objects.ensures.mounts c.in_ok-room_for_objects.ensures.same)
    (alike_console c.room_for_objects.new.cell c.room_at_console.new.cell c.args.shared.now c.in_ok-room_at_console.ensures.world))
    c.room_to_sit.ensures.alike
