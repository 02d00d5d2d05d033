-- What a turn of a zone's daemon replies and leaves of the zone's world, whatever is granted.
use Rattle.std.proofs.Common.{◌≡◌, ◌∷◌, ◌++◌, [], ℕ, Bool, true, false, List, Option, Some, None, ap, map, refl, sym, ◌∙◌}
use Rattle.zn_base.specs.Names.{Name}
use Rattle.zone_pools.specs.Decisions as decisions
use Rattle.zone_pools.specs.Decisions.{Ask, Just}
use Rattle.zone_pools.specs.declared.grant.Grant.{Grant}
use Rattle.zone_pools.specs.declared.grant.Grant.TheVariants.{Nothing, Number, Yes, Denied}
use Rattle.zone_pools.specs.declared.grant.Pool.{Pool}
use Rattle.zone_pools.specs.declared.grant.Pool.TheVariants.{Store}
use Rattle.zone_machine.proofs.Acts_laws.{own-acts}
use Rattle.zone_machine.proofs.Own_worlds.{view-world}
use Rattle.zoneadmd_steps.specs.Arrivals.{Arrival, Comes, New_process, New_record, arrived}
use Rattle.zone_machine.specs.Code.Works.{EndsNoProcess, Works, arrival_by, endings, rest_of, turned_act, work_act}
use Rattle.zone_machine.specs.declared.machine.work.Ending.{Ending}
use Rattle.zone_machine.specs.declared.machine.work.Ending.TheVariants.{Ticket}
use Rattle.zone_machine.specs.declared.machine.work.Storing.{Storing}
use Rattle.zone_machine.specs.declared.machine.work.Storing.TheVariants as storing
use Rattle.zone_cases.specs.declared.cases.ConsoleEdit.TheVariants as console
use Rattle.zoneadmd_steps.specs.Code.Cases.{object_edits}
use Rattle.zoneadmd_steps.specs.declared.requests.Gone.{Gone}
use Rattle.zoneadmd_steps.specs.declared.requests.TurnReply.{TurnReply}
use Rattle.zoneadmd_steps.specs.declared.settling.Stored.{Stored}
use Rattle.zone_machine.specs.declared.machine.work.Work.{Work}
use Rattle.zoneadmd_steps.specs.Code.Works.{arrival_of, gone_by, rest_of_turn, turn_work, with_gone}
use Rattle.zoneadmd_steps.specs.declared.settling.TurnWork.{TurnWork}
use Rattle.zone_cases.specs.State.Decisions.{Act, act_of, acts_world, after_came_world, effects, says, sweeps, turned}
use Rattle.zoneadmd_steps.specs.Desks.{Desk}
use Rattle.zone_cases.specs.State.Edits.{Of_objects, Set_desk, comes_world, console_gone_world, edit_world, edits_world, keeps_console}
use Rattle.zone_machine.specs.Machine.{Answered, decide, done_by, one, subject}
use Rattle.zoneadmd_steps.specs.Objects.{Object_edit, Processes_go, devices_after, mounts_after}
use Rattle.zone_cases.specs.State.{State}
use Rattle.zoneadmd_steps.specs.Turns.{Turned, turn}
use Rattle.zone_cases.specs.State.Worlds.{World, seen_of, view_of, world}
use Rattle.zone_cases.specs.declared.events.Event.TheVariants.{Turn}
use Rattle.loopback_mounts.specs.declared.mount.MountEntry.{MountEntry}
use Rattle.commit_journal.specs.declared.records.Record.{Record}
use Rattle.zone_cases.specs.declared.replies.Head.TheVariants.{Turned as Told}

-- what a decision comes to is so, whatever is granted
abbrev pub In : {E : Type 0} → (Option Arrival → E → Type 0) → decisions.Decision Comes E → Type 0
In P (Just e) = P None e
In P (Ask c asked denied given) = ((pool : Pool) → P None (denied pool)) × ((n : ℕ) → P (Some (arrived c n)) (given n))

pub in-act : {E : Type 0} (P : Option Arrival → E → Type 0) (d : decisions.Decision Comes E) (g : Grant) → In P d → let a = decisions.act_of arrived d g in P a.came a.effect
in-act P (Just e) g h = h
in-act P (Ask c asked denied given) (Number n) h = h.1 n
in-act P (Ask c asked denied given) Yes h = h.1 0
in-act P (Ask c asked denied given) (Denied pool) h = h.0 pool
in-act P (Ask c asked denied given) Nothing h = h.0 Store

pub act-turned : (d : decisions.Decision Comes Turned) (g : Grant) → decisions.act_of arrived (effects turned d) g ≡ turned_act (decisions.act_of arrived d g)
act-turned (Just t) g = refl
act-turned (Ask c asked denied given) (Number n) = refl
act-turned (Ask c asked denied given) g = refl

-- what a turn of the zone comes to under a grant
abbrev pub turn_act : World → Grant → decisions.Act Arrival Turned
turn_act w g = decisions.act_of arrived (turn (seen_of w)) g

pub decide-turn : (z y : Name) (w : World) (g : Grant) → act_of (decide (view_of z w) (Turn y)) g ≡ turned_act (turn_act w g)
unfolding decide view_of
decide-turn z y w g = act-turned (turn (seen_of w)) g

-- a turn of the zone, what it replies, and what it leaves of the zone's world
pub one-turn : (z : Name) (S : State) (g : Grant) → one S (Turn z) g ≡ done_by z None (turned_act (turn_act (world z S) g)) S
unfolding one subject
one-turn z S g = ap (λ v. done_by z None (act_of (decide v (Turn z)) g) S) (view-world z S) ∙ ap (λ (a : Act). done_by z None a S) (decide-turn z z (world z S) g)

pub turn-reply : (z : Name) (S : State) (g : Grant) → (one S (Turn z) g).reply ≡ says (Told (turn_act (world z S) g).effect.reply)
turn-reply z S g = ap (λ (r : Answered). r.reply) (one-turn z S g)

pub turn-world : (z : Name) (S : State) (g : Grant) → world z (one S (Turn z) g).state ≡ acts_world None (turned_act (turn_act (world z S) g)) (world z S)
turn-world z S g = ap (λ (r : Answered). world z r.state) (one-turn z S g) ∙ own-acts z None (turned_act (turn_act (world z S) g)) S

-- the stored record after a turn
abbrev pub stored_after : Option Arrival → Option Record → Option Record
stored_after (Some (New_record row)) old = row
stored_after _ old = old

-- this stands in a world
pub record Has (row : Option Record) (ms : List MountEntry) (ds : List (List ℕ)) (d : Desk) (w : World) : Type 0 where
  pub stored : w.stored ≡ row
  pub mounts : w.mounts ≡ ms
  pub devices : w.devices ≡ ds
  pub desk : w.desk ≡ d

has-edits : (n : Option ℕ) (es : List Object_edit) (d : Desk) (ended : Option ℕ) (w : World)
    → Has w.stored (mounts_after es w.mounts) (devices_after es w.devices) d (edits_world n (map Of_objects es ++ Set_desk d ∷ sweeps ended) w)
has-edits n [] d None w = record { stored = refl; mounts = refl; devices = refl; desk = refl }
has-edits n [] d (Some t) w = record { stored = refl; mounts = refl; devices = refl; desk = refl }
has-edits n (Processes_go p ∷ es) d ended w = has-edits n es d ended (edit_world n (Of_objects (Processes_go p)) w)
has-edits n (e ∷ es) d ended w = has-edits n es d ended (edit_world n (Of_objects e) w)

pub has-turned : (n : Option ℕ) (a : decisions.Act Arrival Turned) (w : World)
    → Has (stored_after a.came w.stored) (mounts_after a.effect.objects w.mounts) (devices_after a.effect.objects w.devices) a.effect.desk (acts_world n (turned_act a) w)
has-turned n a w = at_came a.came
  where
    at_came : (c : Option Arrival) → Has (stored_after c w.stored) (mounts_after a.effect.objects w.mounts) (devices_after a.effect.objects w.devices) a.effect.desk (acts_world n (turned_act (record a { came = c })) w)
    at_came (Some (New_process p)) = has-edits n a.effect.objects a.effect.desk a.effect.ended (comes_world (New_process p) w)
    at_came (Some (New_record row)) = at_keeps (keeps_console row)
      where
        at_keeps : (b : Bool) → Has row (mounts_after a.effect.objects w.mounts) (devices_after a.effect.objects w.devices) a.effect.desk
            (edits_world n (map Of_objects a.effect.objects ++ Set_desk a.effect.desk ∷ sweeps a.effect.ended) (console_gone_world b (record w { stored = row })))
        at_keeps true = has-edits n a.effect.objects a.effect.desk a.effect.ended (record w { stored = row })
        at_keeps false = has-edits n a.effect.objects a.effect.desk a.effect.ended (console_gone_world false (record w { stored = row }))
    at_came c = has-edits n a.effect.objects a.effect.desk a.effect.ended (after_came_world c w)

-- the work of a turn does what the machine makes of the turn
pub settled_turn : (d : decisions.Decision Comes Turned) (g : Grant) (w : TurnWork) (desk : Desk) → rest_of_turn (decisions.act_of arrived d g) ≡ turn_work w desk → rest_of (act_of (effects turned d) g) ≡ turned_act (turn_work w desk)
settled_turn d g w desk h = ap rest_of (act-turned d g) ∙ ap turned_act h

pub works_same : (n : Option ℕ) (a : Act) (v : World) (d : Desk) (w : Work) → a ≡ work_act w d → Works n a v d w
works_same n a v d w h = record { came = sym (ap (λ (a : Act). a.came) h); reply = sym (ap (λ (a : Act). a.effect.reply) h); world = sym (ap (λ (a : Act). acts_world n a v) h) }

-- the work of a turn, as any work
abbrev storing_of : Option Stored → Storing
storing_of None = storing.Nothing
storing_of (Some s) = storing.Row s

abbrev ending_of : Option ℕ → Option Ending
ending_of None = None
ending_of (Some ticket) = Some (Ticket ticket)

abbrev pub as_work : TurnWork → Work
as_work w = record { stored = storing_of w.stored; objects = w.objects; sits = None; console = console.Nothing; ended = ending_of w.ended; reply = says (Told w.reply) }

arrival-storing : (s : Option Stored) → arrival_by (storing_of s) ≡ arrival_of s
arrival-storing None = refl
arrival-storing (Some s) = refl

ticket-ends : (ended : Option ℕ) → endings (ending_of ended) ≡ sweeps ended
ticket-ends None = refl
ticket-ends (Some ticket) = refl

pub ends_no_process : (ended : Option ℕ) → EndsNoProcess (ending_of ended)
ends_no_process None = tt
ends_no_process (Some ticket) = tt

turned_work : (w : TurnWork) (d : Desk) → work_act (as_work w) d ≡ turned_act (turn_work w d)
turned_work w d = λ i. record {
  came = arrival-storing w.stored i;
  effect = record { edits = map Of_objects (object_edits w.objects) ++ (Set_desk d ∷ ticket-ends w.ended i); reply = says (Told (with_gone (gone_by w.objects) w.reply)) };
}

-- and does what the turn decides
pub turn_works : (n : Option ℕ) (decided : decisions.Decision Comes Turned) (g : Grant) (v : World) (d : Desk) (w : TurnWork) → rest_of_turn (decisions.act_of arrived decided g) ≡ turn_work w d
    → Works n (rest_of (act_of (effects turned decided) g)) v d (as_work w)
turn_works n decided g v d w h = works_same n _ v d (as_work w) (settled_turn decided g w d h ∙ sym (turned_work w d))

-- what it tells, once it is known what went as the last
pub turn_told : (decided seen : decisions.Decision Comes Turned) (d : Desk) (w : TurnWork) (gone : Gone) (told : TurnReply) → told ≡ with_gone gone w.reply → gone ≡ gone_by w.objects
    → rest_of_turn (decisions.act_of arrived decided Nothing) ≡ turn_work w d → decided ≡ seen → says (Told told) ≡ (act_of (effects turned seen) Nothing).effect.reply
turn_told decided seen d w gone told is goes h same =
    ap (λ r. says (Told r)) (is ∙ ap (λ g. with_gone g w.reply) goes)
    ∙ (sym (ap (λ (a : Act). a.effect.reply) (settled_turn decided Nothing w d h)) ∙ ap (λ (c : decisions.Decision Comes Turned). (act_of (effects turned c) Nothing).effect.reply) same)
