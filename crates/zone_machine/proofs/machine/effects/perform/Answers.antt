use Rattle.std.proofs.Common.{◌≡◌, None, ap, is_some, refl, subst, sym, ◌∙◌}
use Rattle.std.specs.Prelude.{bytes_eq, if◌then◌else◌}
use Rattle.zoneadmd_steps.specs.declared.desks.Desk.{Desk}
use Rattle.zone_cases.specs.Code.Cases.{seats, decision_of}
use Rattle.zone_machine.specs.Code.Works.{rest_of}
use Rattle.zone_machine.proofs.Doing_laws.{acts_up, does_work}
use Rattle.zone_machine.proofs.Case_asks.{asks-rightly, asks_case}
use Rattle.zone_machine.proofs.Roomy.{free_owner, room_to_sit, roomy}
use Rattle.zone_cases.specs.Code.Cells.{cell_world}
use Rattle.zone_machine.specs.Code.Cells.{is_up_in, outside_in}
use Rattle.zone_machine.specs.Code.Needs.{pools_in}
use Rattle.zone_cases.specs.State.Decisions.{act_of}
use Rattle.zone_machine.specs.Code.Rooms.{HasRoomOf}
use Rattle.commit_journal.specs.Zones.{rows_of}
use Rattle.zone_machine.specs.Code.Records.{rows_with, used_with}
use Rattle.zone_machine.proofs.machine.effects.perform.Goals as goal

pub carry_out-reply-requires-clause-free : goal.carry_out-reply-requires-clause-free
carry_out-reply-requires-clause-free c =
    let works = c.settle-work.ensures.works None (cell_world (outside_in c.args.zone.now c.args.shared.now) c.args.cell.now) refl in
    free_owner c.args.zone.now c.settle-work.result.stored _ (pools_in c.args.shared.now) works.came (c.settle-work.ensures.named c.args.zone.now c.requires.named).stored c.requires.free

pub carry_out-reply-requires-clause-stored : goal.carry_out-reply-requires-clause-stored
carry_out-reply-requires-clause-stored c =
    let cell = c.args.cell.now in
    let works = c.settle-work.ensures.works None (cell_world (outside_in c.args.zone.now c.args.shared.now) cell) refl in
    subst (λ o. HasRoomOf o c.args.shared.now) (sym works.came) (roomy (decision_of cell.desk c.args.case) c.args.grant c.args.shared.now (asks-rightly (decision_of cell.desk c.args.case) (asks_case cell.desk c.args.case)) c.requires.room.stored)

pub carry_out-reply-requires-clause-sits : goal.carry_out-reply-requires-clause-sits
carry_out-reply-requires-clause-sits c = room_to_sit (seats c.args.case) c.args.cell.now c.args.shared.now c.settle-work.result.sits c.settle-work.ensures.sits c.requires.room.sits

pub carry_out-reply-requires-clause-console : goal.carry_out-reply-requires-clause-console
carry_out-reply-requires-clause-console c = c.settle-work.ensures.console c.args.cell.now.console c.requires.room.console

pub carry_out-reply-requires-clause-objects : goal.carry_out-reply-requires-clause-objects
carry_out-reply-requires-clause-objects c = c.settle-work.ensures.objects (record c.args.cell.now { desk = c.settle-work.new.desk }) c.requires.room.objects

pub returns-clause-reply : goal.returns-clause-reply
returns-clause-reply c =
    let works = c.settle-work.ensures.works None (cell_world (outside_in c.args.zone.now c.args.shared.now) c.args.cell.now) refl in
    c.carry_out-reply.ensures.reply ∙ works.reply

pub returns-clause-does : goal.returns-clause-does
returns-clause-does c = λ named opens.
    let cell = c.args.cell.now in let s = c.args.shared.now in let n = c.args.number in let z = c.args.zone.now in
    acts_up z _ _ cell c.carry_out-reply.new.cell s c.carry_out-reply.new.shared (record c.carry_out-reply.new.shared { ups = c.mark.new.ups })
    (does_work z n (rest_of (act_of (decision_of cell.desk c.args.case) c.args.grant)) c.settle-work.result cell c.carry_out-reply.new.cell c.settle-work.new.desk s c.carry_out-reply.new.shared
    (c.settle-work.ensures.works n (cell_world (outside_in z s) cell) refl) (c.carry_out-reply.ensures.does z (c.settle-work.ensures.named z named) opens))
    c.carry_out-reply.ensures.ups refl
    (λ up y. c.mark.ensures (up ∙ sym (c.is_some-was.ensures ∙ ap is_some c.active.ensures)) y
    ∙ ap (λ b. if bytes_eq z y then b else is_up_in c.carry_out-reply.new.shared y) (c.is_some-is.ensures ∙ ap is_some (c.active-2.ensures ∙ sym (ap (λ (d : Desk). d.active) c.carry_out-reply.ensures.desk))))

pub returns-clause-rows : goal.returns-clause-rows
returns-clause-rows c =
    let z = c.args.zone.now in
    let works = c.settle-work.ensures.works None (cell_world (outside_in z c.args.shared.now) c.args.cell.now) refl in
    subst (λ o. rows_of c.carry_out-reply.new.shared.rows.entries ≡ rows_with z o (rows_of c.args.shared.now.rows.entries)) works.came (c.carry_out-reply.ensures.rows z (c.settle-work.ensures.named z c.requires.named))

pub returns-clause-used : goal.returns-clause-used
returns-clause-used c =
    let z = c.args.zone.now in
    let works = c.settle-work.ensures.works None (cell_world (outside_in z c.args.shared.now) c.args.cell.now) refl in
    subst (λ o. c.carry_out-reply.new.shared.used ≡ used_with z o c.args.shared.now.used) works.came (c.carry_out-reply.ensures.used z (c.settle-work.ensures.named z c.requires.named))
