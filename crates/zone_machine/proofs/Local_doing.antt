-- A local turn on its zone's cell: what is done to the cell is what the turn does to the zone's world.
use Rattle.std.proofs.Common.{◌≡◌, ◌∷◌, ◌++◌, [], ℕ, Bool, true, false, List, Option, Some, None, map, refl, ap, subst, sym, ◌∙◌}
use Rattle.std.specs.Prelude.{IsSomeAnd}
use Rattle.zn_base.specs.Names.{Name}
use Rattle.zone_pools.specs.Decisions as decisions
use Rattle.zone_pools.specs.Decisions.{Just}
use Rattle.zone_pools.specs.declared.grant.Grant.TheVariants.{Nothing}
use Rattle.zone_machine.proofs.Local_laws.{Local, is-local, local-one, not-local, stays, subject-turn, world-after}
use Rattle.zone_machine.specs.Code.Works.{EndsNoProcess, Works, arrival_by, endings, rest_of, ticket_of, told_by, turned_act}
use Rattle.zone_machine.specs.declared.machine.work.Ending.{Ending}
use Rattle.zone_machine.specs.declared.machine.work.Ending.TheVariants.{Process, Ticket}
use Rattle.zone_cases.specs.Code.Consoles.{console_edits}
use Rattle.zone_cases.specs.declared.cases.ConsoleEdit.TheVariants as console
use Rattle.zone_cases.specs.Code.Doings.{sits}
use Rattle.zone_machine.proofs.Turned_laws.{has-turned}
use Rattle.zoneadmd_steps.specs.Arrivals.{Arrival}
use Rattle.zoneadmd_steps.specs.Code.Cases.{object_edits}
use Rattle.zone_cases.specs.Code.Cells.{CellOf, IsHeardIn, Outside, cell_objects, cell_world, outside_of}
use Rattle.brand_hooks.specs.declared.table.HookAnswer.{HookAnswer}
use Rattle.zoneadmd_steps.specs.Objects.{ids_of, Object_edit, Processes_go, devices_after, ids_after, mounts_after}
use Rattle.zone_cases.specs.State.Decisions.{Decision, act_of, acts_world, after_came_world, effects, says, sweeps, turned}
use Rattle.zoneadmd_steps.specs.Desks as desks
use Rattle.zoneadmd_steps.specs.Code.Desks.{as_desk}
use Rattle.zone_cases.specs.State.Edits.{Of_objects, Set_desk, console_gone_world, edit_world, edits_world, keeps_console}
use Rattle.zone_machine.specs.Code.Local_turns.{After, HasNoNext, IsDone, IsLocalTurn, IsNotLocal}
use Rattle.zone_machine.specs.Machine.{Answered, one, subject}
use Rattle.zoneadmd_steps.specs.Turns.{Turn_decision, Turned, local_turn}
use Rattle.zone_cases.specs.State.{State}
use Rattle.zone_cases.specs.State.Worlds.{World, objects_of, world}
use Rattle.zone_cases.specs.declared.cell.Cell.{Cell}
use Rattle.zoneadmd_steps.specs.declared.requests.TurnReply.TheVariants.{Idle}
use Rattle.zoneadmd_steps.specs.declared.desks.Desk.{Desk}
use Rattle.zone_cases.specs.declared.events.Entry.{Entry}
use Rattle.zone_cases.specs.declared.events.Event.{Event}
use Rattle.zone_cases.specs.declared.events.Event.TheVariants.{Turn}
use Rattle.zone_cases.specs.declared.events.Subject.{Subject}
use Rattle.zone_cases.specs.declared.events.Subject.TheVariants.{Zone}
use Rattle.zone_cases.specs.declared.replies.Head.TheVariants.{Turned as Told}
use Rattle.zone_cases.specs.declared.replies.Reply.{Reply}
use Rattle.zoneadmd_steps.specs.declared.objects.changes.ObjectEdit.{ObjectEdit}
use Rattle.zone_machine.specs.declared.machine.work.Storing.{Storing}
use Rattle.zone_machine.specs.declared.machine.work.Storing.TheVariants as storing
use Rattle.zone_machine.specs.declared.machine.work.Work.{Work}

-- the ids after a turn, where none came
ids-edits : (n : Option ℕ) (es : List Object_edit) (d : desks.Desk) (ended : Option ℕ) (w : World) → (edits_world n (map Of_objects es ++ Set_desk d ∷ sweeps ended) w).ids ≡ ids_after es w.ids
ids-edits n [] d None w = refl
ids-edits n [] d (Some t) w = refl
ids-edits n (Processes_go p ∷ es) d ended w = ids-edits n es d ended (edit_world n (Of_objects (Processes_go p)) w)
ids-edits n (e ∷ es) d ended w = ids-edits n es d ended (edit_world n (Of_objects e) w)

has-ids : (n : Option ℕ) (a : decisions.Act Arrival Turned) (w : World) → ((v : World) → (after_came_world a.came v).ids ≡ v.ids) → (acts_world n (turned_act a) w).ids ≡ ids_after a.effect.objects w.ids
has-ids n a w apart = ids-edits n a.effect.objects a.effect.desk a.effect.ended (after_came_world a.came w) ∙ ap (ids_after a.effect.objects) (apart w)

stored_apart : (s : Storing) (v : World) → (after_came_world (arrival_by s) v).ids ≡ v.ids
stored_apart storing.Nothing v = refl
stored_apart (storing.Row s) v = at_keeps (keeps_console (Some s.row.value))
  where
    at_keeps : (b : Bool) → (console_gone_world b (record v { stored = Some s.row.value })).ids ≡ v.ids
    at_keeps true = refl
    at_keeps false = refl
stored_apart (storing.Removal z) v = refl

devices-edits : (n : Option ℕ) (es : List Object_edit) (d : desks.Desk) (ended : Option ℕ) (w : World) → (edits_world n (map Of_objects es ++ Set_desk d ∷ sweeps ended) w).devices ≡ devices_after es w.devices
devices-edits n [] d None w = refl
devices-edits n [] d (Some t) w = refl
devices-edits n (Processes_go p ∷ es) d ended w = devices-edits n es d ended (edit_world n (Of_objects (Processes_go p)) w)
devices-edits n (e ∷ es) d ended w = devices-edits n es d ended (edit_world n (Of_objects e) w)

has-devices : (n : Option ℕ) (a : decisions.Act Arrival Turned) (w : World) → ((v : World) → (after_came_world a.came v).devices ≡ v.devices) → (acts_world n (turned_act a) w).devices ≡ devices_after a.effect.objects w.devices
has-devices n a w apart = devices-edits n a.effect.objects a.effect.desk a.effect.ended (after_came_world a.came w) ∙ ap (devices_after a.effect.objects) (apart w)

stored_beside : (s : Storing) (v : World) → (after_came_world (arrival_by s) v).devices ≡ v.devices
stored_beside storing.Nothing v = refl
stored_beside (storing.Row s) v = at_keeps (keeps_console (Some s.row.value))
  where
    at_keeps : (b : Bool) → (console_gone_world b (record v { stored = Some s.row.value })).devices ≡ v.devices
    at_keeps true = refl
    at_keeps false = refl
stored_beside (storing.Removal z) v = refl

-- what becomes of a cell's world
pub record Lasts (o : ObjectEdit) (t : Turned) (d : desks.Desk) (v : World) : Type 0 where
  pub mounts : mounts_after (object_edits o) v.mounts ≡ mounts_after t.objects v.mounts
  pub devices : devices_after (object_edits o) v.devices ≡ devices_after t.objects v.devices
  pub ids : ids_after (object_edits o) v.ids ≡ ids_after t.objects v.ids
  pub desk : d ≡ t.desk

ticket-ends : (o : Option Ending) → EndsNoProcess o → endings o ≡ sweeps (ticket_of o)
ticket-ends None ends = refl
ticket-ends (Some (Ticket ticket)) ends = refl
ticket-ends (Some (Process pid)) ends = absurd ends

-- what settling a turn tells to do leaves the mounts, the ids and the desk that the turn leaves
pub settled : (decided : Decision) (t : Turned) (d : desks.Desk) (w : Work) (v : World) → decided ≡ effects turned (Just t) → w.sits ≡ None → w.console ≡ console.Nothing → EndsNoProcess w.ended → Works None (rest_of (act_of decided Nothing)) v d w
    → Lasts w.objects t d v
settled decided t d w v is sat still ends works =
    let told : decisions.Act Arrival Turned = record { came = arrival_by w.stored; effect = record { objects = object_edits w.objects; desk = d; ended = ticket_of w.ended; reply = Idle } } in
    let done : decisions.Act Arrival Turned = record { came = None; effect = t } in
    let left = has-turned None told v in let right = has-turned None done v in
    let left_ids = has-ids None told v (stored_apart w.stored) in let right_ids = has-ids None done v (λ w. refl) in
    let same : acts_world None (turned_act told) v ≡ acts_world None (turned_act done) v =
    sym (λ i. acts_world None (record { came = arrival_by w.stored; effect = record { edits = sits (sat i) ++ (map Of_objects (object_edits w.objects) ++ (Set_desk d ∷ (console_edits (still i) ++ ticket-ends w.ended ends i))); reply = told_by w } }) v)
    ∙ (works.world ∙ ap (λ x. acts_world None (rest_of (act_of x Nothing)) v) is) in
    record {
      mounts = sym left.mounts ∙ (ap (λ (u : World). u.mounts) same ∙ right.mounts);
      devices = sym (has-devices None told v (stored_beside w.stored)) ∙ (ap (λ (u : World). u.devices) same ∙ has-devices None done v (λ w. refl));
      ids = sym left_ids ∙ (ap (λ (u : World). u.ids) same ∙ right_ids);
      desk = sym left.desk ∙ (ap (λ (u : World). u.desk) same ∙ right.desk);
    }

-- and so they stand in the cell
pub after : (out : Outside) (old mid new : Cell) (d : Desk) (o : ObjectEdit) (t : Turned) → cell_world out mid ≡ cell_world out old
    → new ≡ record mid { desk = d; kernel = new.kernel; mounts = new.mounts } → new.kernel.processes ≡ mid.kernel.processes → new.kernel.devices ≡ devices_after (object_edits o) mid.kernel.devices
    → new.mounts.list ≡ mounts_after (object_edits o) mid.mounts.list → ids_of new.kernel.id ≡ ids_after (object_edits o) (ids_of mid.kernel.id) → Lasts o t (as_desk d) (cell_world out mid)
    → cell_world out new ≡ record (cell_world out old) { mounts = mounts_after t.objects old.mounts.list; devices = devices_after t.objects old.kernel.devices; ids = ids_after t.objects (ids_of old.kernel.id); desk = t.desk }
after out old mid new d o t same is processes devices mounts ids left =
    ap (cell_world out) is
    ∙ ((λ i. record (cell_world out mid) { processes = processes i; devices = (devices ∙ left.devices) i; mounts = (mounts ∙ left.mounts) i; ids = (ids ∙ left.ids) i; desk = left.desk i })
    ∙ ap (λ (w : World). record w { mounts = mounts_after t.objects w.mounts; devices = devices_after t.objects w.devices; ids = ids_after t.objects w.ids; desk = t.desk }) same)

abbrev answered : Event → Subject → Reply → Entry
answered e of r = record { event = e; subject = of; grant = Nothing; reply = r }

pub answered-same : (e : Event) (of : Subject) (z : Name) (r s : Reply) → e ≡ Turn z → of ≡ Zone z → r ≡ s → answered e of r ≡ answered (Turn z) (Zone z) s
answered-same e of z r s a b c = λ i. answered (a i) (b i) (c i)

abbrev entry_of : Name → Turned → Entry
entry_of z t = answered (Turn z) (Zone z) (says (Told t.reply))

-- what a cell's world decides, its cell decides
next-in : (w : World) (c : Cell) → CellOf c w → local_turn w.brands (objects_of w) w.desk ≡ local_turn w.brands (cell_objects c) (as_desk c.desk)
next-in w c of = ap (λ (v : World). local_turn w.brands (objects_of v) v.desk) of

done : (z : Name) (c d : Cell) (t : Turned) (S : State) → CellOf c (world z S) → local_turn S.brands (cell_objects c) (as_desk c.desk) ≡ Some t → After t c d → IsDone z S (entry_of z t) d
done z c d t S of next left =
    let w = world z S in let entry = entry_of z t in
    let decided : local_turn w.brands (objects_of w) w.desk ≡ Some t = next-in w c of ∙ next in
    let l : Local z w entry t = record { event = refl; subject = refl; grant = refl; decided = decided; stays = stays w t decided; reply = refl } in
    let world-is = world-after z S entry t l in
    let cell-is : world z (one S (Turn z) Nothing).state ≡ cell_world (outside_of w) d =
    world-is ∙ (ap (λ (v : World). record v { mounts = mounts_after t.objects v.mounts; devices = devices_after t.objects v.devices; ids = ids_after t.objects v.ids; desk = t.desk }) of ∙ sym (left (outside_of w))) in
    record {
      local = is-local z w entry t l;
      told = ap (λ s. record entry { subject = s }) (sym (subject-turn S z))
          ∙ ap (λ r. record entry { subject = subject S (Turn z); reply = r }) (sym (ap (λ (r : Answered). r.reply) (local-one z S entry t l)));
      cell = cell-is ∙ ap (λ out. cell_world out d) (sym (ap outside_of world-is));
    }

abbrev Decides : Option Turned → Turn_decision → Type 0
Decides o td = IsSomeAnd o (λ t. Just t ≡ td)

pub done-local : (z : Name) (c d : Cell) (answer : HookAnswer) (entry : Entry) (td : Turn_decision)
    → ((out : Outside) → IsHeardIn out.brands c answer → IsSomeAnd (local_turn out.brands (cell_objects c) (as_desk c.desk)) (λ t. Just t ≡ td))
    → entry ≡ record { event = Turn z; subject = Zone z; grant = Nothing; reply = (act_of (effects turned td) Nothing).effect.reply }
    → ((t : Turned) → effects turned td ≡ effects turned (Just t) → After t c d) → IsLocalTurn z c answer entry d
done-local z c d answer entry td next told left S of heard =
    at_next (local_turn S.brands (cell_objects c) (as_desk c.desk)) refl (next (outside_of (world z S)) heard)
  where
    at_next : (o : Option Turned) → local_turn S.brands (cell_objects c) (as_desk c.desk) ≡ o → Decides o td → IsDone z S entry d
    at_next None e h = absurd h
    at_next (Some t) e h =
        subst (λ entry. IsDone z S entry d) (sym (told ∙ ap (λ (td : Turn_decision). record { event = Turn z; subject = Zone z; grant = Nothing; reply = (act_of (effects turned td) Nothing).effect.reply }) (sym h)))
        (done z c d t S of e (left t (ap (effects turned) (sym h))))

-- no turn is local where the cell decides none
pub none-local : (z : Name) (c : Cell) (answer : HookAnswer) → HasNoNext c answer → IsNotLocal z c answer
none-local z c answer none S of heard entry = not-local z (world z S) entry (next-in (world z S) c of ∙ none (outside_of (world z S)) heard)
