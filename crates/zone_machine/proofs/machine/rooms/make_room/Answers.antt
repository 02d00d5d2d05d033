use Rattle.std.proofs.Common.{subst, sym}
use Rattle.zone_machine.proofs.Results.{on_ok}
use Rattle.zone_machine.proofs.Rooms_laws.{alike_desk, alike_rows, alike_then, alike_ups, made_room}
use Rattle.zone_cases.specs.Code.Cases.{IsCaseOf}
use Rattle.zone_machine.proofs.machine.rooms.make_room.Goals as goal

pub returns-in_err-room_to_store-clause-alike : goal.returns-in_err-room_to_store-clause-alike
returns-in_err-room_to_store-clause-alike c = alike_then _ _ _ _ _ _ c.in_ok-room_to_do.ensures.alike
    (alike_rows c.room_to_do.new.cell c.room_to_do.new.shared c.room_to_store.new.shared c.in_err-room_to_store.ensures.rows c.in_err-room_to_store.ensures.same)

pub returns-in_err-room_to_rise-clause-alike : goal.returns-in_err-room_to_rise-clause-alike
returns-in_err-room_to_rise-clause-alike c = alike_then _ _ _ _ _ _
    (alike_then _ _ _ _ _ _ c.in_ok-room_to_do.ensures.alike (alike_rows c.room_to_do.new.cell c.room_to_do.new.shared c.room_to_store.new.shared c.in_ok-room_to_store.ensures.rows c.in_ok-room_to_store.ensures.same))
    (alike_ups c.room_to_do.new.cell c.room_to_store.new.shared c.room_to_rise.new.shared c.in_err-room_to_rise.ensures.ups c.in_err-room_to_rise.ensures.same)

pub returns-clause-alike : goal.returns-clause-alike
returns-clause-alike c = alike_then _ _ _ _ _ _
    (alike_then _ _ _ _ _ _
    (alike_then _ _ _ _ _ _ c.in_ok-room_to_do.ensures.alike (alike_rows c.room_to_do.new.cell c.room_to_do.new.shared c.room_to_store.new.shared c.in_ok-room_to_store.ensures.rows c.in_ok-room_to_store.ensures.same))
    (alike_ups c.room_to_do.new.cell c.room_to_store.new.shared c.room_to_rise.new.shared c.in_ok-room_to_rise.ensures.ups c.in_ok-room_to_rise.ensures.same))
    (alike_desk c.room_to_do.new.cell c.room_to_rise.new.shared c.room_on_desk.new.desk c.room_on_desk.ensures.desk)

pub returns-clause-room : goal.returns-clause-room
returns-clause-room c =
    let case = c.args.case.now in
    let of = c.room_on_desk.ensures.of (subst (λ d. IsCaseOf d case) (sym c.in_ok-room_to_do.ensures.desk) c.requires.of) in
    on_ok c.room_on_desk.result _ _
    (made_room c.args.zone.now case c.room_to_do.new.cell c.room_to_do.new.shared c.room_to_store.new.shared c.room_to_rise.new.shared c.room_on_desk.new.desk _
    c.in_ok-room_to_store.ensures.same c.in_ok-room_to_rise.ensures.same c.room_on_desk.ensures.desk (c.need_of.ensures c.room_on_desk.new.desk of)
    c.in_ok-room_to_do.ensures.objects c.in_ok-room_to_do.ensures.sits c.in_ok-room_to_do.ensures.console c.in_ok-room_to_store.ensures.room c.in_ok-room_to_rise.ensures.room) c.room_on_desk.ensures.room
