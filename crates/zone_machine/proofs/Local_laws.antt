-- Local turns change their zone's mounts and devices, its id but for the number, and its desk alone; and a zone that has work has a turn.
use Rattle.std.proofs.Common.{◌≡◌, ◌∷◌, ◌++◌, [], ◌&&◌, ◌||◌, ℕ, List, Bool, Option, Some, None, true, false, map, refl, ap, sym, ◌∙◌}
use Rattle.std.specs.Prelude.{◌≢◌, bytes_eq, if◌then◌else◌, is_some}
use Rattle.std.specs.List.{list_all, list_any}
use Rattle.std.proofs.lemmas.Bool.{and_from, and_parts, false≢true}
use Rattle.zn_base.specs.Names.{Name}
use Rattle.zone_pools.proofs.Owned_laws.{same_self, same_true}
use Rattle.zone_pools.proofs.Same_laws.{grant-Decides}
use Rattle.zone_pools.specs.Decisions as decisions
use Rattle.zone_pools.specs.Decisions.{Ask, Just, asked_of}
use Rattle.kernel_objects.specs.declared.objects.Id.{Id}
use Rattle.zone_pools.specs.Owned_lists.{Change, edit_list, mine}
use Rattle.zone_pools.specs.Pools.{said_by_all}
use Rattle.zone_pools.specs.declared.owned.Owned.{Owned}
use Rattle.zone_pools.specs.Same.{same_grant}
use Rattle.zone_pools.specs.declared.grant.Grant.{Grant}
use Rattle.zone_pools.specs.declared.grant.Grant.TheVariants.{Nothing}
use Rattle.zone_machine.proofs.Acts_laws.{own-acts}
use Rattle.zone_machine.proofs.Same_laws.{reply-Decides, subject-Decides}
use Rattle.zoneadmd_steps.proofs.Of_turns.{IsAwake, Stays, awake-turn, stays-turn, turn-local}
use Rattle.zone_machine.specs.Code.Works.{turned_act}
use Rattle.zone_machine.proofs.Turned_laws.{in-act, one-turn, turn-reply, turn_act}
use Rattle.zoneadmd_steps.specs.Arrivals.{arrived}
use Rattle.zone_machine.specs.Machine.Common.{Common, common}
use Rattle.zone_machine.specs.Machine.Local.{is_busy, is_local, is_turn_of, tells_local}
use Rattle.zoneadmd_steps.specs.Local.{is_idle, is_of_own}
use Rattle.zone_cases.specs.State.Decisions.{effects, says, sweeps, turned}
use Rattle.zoneadmd_steps.specs.Desks.{Desk}
use Rattle.zone_cases.specs.State.Edits.{Of_objects, Set_desk, edit, edit_world, edits, edits_world}
use Rattle.zone_machine.specs.Machine.Histories.{is_allowed, is_told}
use Rattle.zone_machine.specs.Machine.{Answered, decide, done_by, one, started, subject}
use Rattle.zoneadmd_steps.specs.Objects.{Devices_are, Ids_change, Object_edit, Of_mounts, devices_after, has_zid, ids_after, keeping_zid, mounts_after}
use Rattle.zone_machine.specs.Machine.Pools.{allowed, pools_of}
use Rattle.zone_machine.specs.Machine.Same.{same_subject}
use Rattle.zone_cases.specs.State.{State}
use Rattle.zoneadmd_steps.specs.Turns.{Turn_decision, Turned, local_turn, turn}
use Rattle.zone_cases.specs.State.Worlds.{World, objects_of, seen_of, view, world}
use Rattle.zoneadmd_steps.specs.declared.requests.TurnReply.{TurnReply}
use Rattle.zoneadmd_steps.specs.declared.requests.TurnReply.TheVariants.{Idle}
use Rattle.zone_cases.specs.declared.events.Entry.{Entry}
use Rattle.zone_cases.specs.declared.events.Event.{Event}
use Rattle.zone_cases.specs.declared.events.Event.TheVariants.{Process as Call_of, Restart, Session, System, Turn}
use Rattle.zone_cases.specs.declared.events.Subject.TheVariants.{Zone}
use Rattle.loopback_mounts.specs.declared.mount.MountEntry.{MountEntry}
use Rattle.zone_cases.specs.declared.replies.Head.TheVariants.{Turned as Told}

-- what a local entry says, with what its turn does
pub record Local (z : Name) (w : World) (e : Entry) (t : Turned) : Type 0 where
  pub event : e.event ≡ Turn z
  pub subject : e.subject ≡ Zone z
  pub grant : e.grant ≡ Nothing
  pub decided : local_turn w.brands (objects_of w) w.desk ≡ Some t
  pub stays : Stays w.desk t
  pub reply : e.reply ≡ says (Told t.reply)

-- a turn that the world decides is such
pub stays : (w : World) (t : Turned) → local_turn w.brands (objects_of w) w.desk ≡ Some t → Stays w.desk t
stays w t is = stays-turn w.brands (objects_of w) w.desk t is

-- and is what the daemon does
pub decided : (w : World) (t : Turned) → local_turn w.brands (objects_of w) w.desk ≡ Some t → turn (seen_of w) ≡ Just t
decided w t is = turn-local (seen_of w) t is

pub local-turn : (z : Name) (w : World) (e : Entry) → is_local z w e ≡ true → (t : Turned) × Local z w e t
local-turn z w e h =
    let l = local_turn w.brands (objects_of w) w.desk in
    let parts = and_parts (is_turn_of z e.event && same_subject e.subject (Zone z) && same_grant e.grant Nothing) (tells_local l e.reply) h in
    let more = and_parts (is_turn_of z e.event && same_subject e.subject (Zone z)) (same_grant e.grant Nothing) parts.0 in
    let first = and_parts (is_turn_of z e.event) (same_subject e.subject (Zone z)) more.0 in
    at_turn l refl (turn_of e.event first.0) ((subject-Decides e.subject (Zone z)).0 first.1) ((grant-Decides e.grant Nothing).0 more.1) parts.1
  where
    turn_of : (x : Event) → is_turn_of z x ≡ true → x ≡ Turn z
    turn_of (Session n text) h = absurd (false≢true h)
    turn_of (Turn y) h = ap Turn (sym (same_true z y h))
    turn_of (Call_of y pid c) h = absurd (false≢true h)
    turn_of (System what) h = absurd (false≢true h)
    turn_of Restart h = absurd (false≢true h)

    at_turn : (l : Option Turned) → local_turn w.brands (objects_of w) w.desk ≡ l → e.event ≡ Turn z → e.subject ≡ Zone z → e.grant ≡ Nothing → tells_local l e.reply ≡ true → (t : Turned) × Local z w e t
    at_turn (Some t) is event subject grant h = (
      t,
      record { event = event; subject = subject; grant = grant; decided = is; stays = stays w t is; reply = (reply-Decides e.reply (says (Told t.reply))).0 h },
    )
    at_turn None is event subject grant h = absurd (false≢true h)

-- and what says so is local
pub is-local : (z : Name) (w : World) (e : Entry) (t : Turned) → Local z w e t → is_local z w e ≡ true
is-local z w e t l =
    and_from _ _
    (and_from _ _ (and_from _ _ (ap (is_turn_of z) l.event ∙ same_self z) ((subject-Decides e.subject (Zone z)).1 l.subject)) ((grant-Decides e.grant Nothing).1 l.grant))
    (ap (λ d. tells_local d e.reply) l.decided ∙ (reply-Decides e.reply (says (Told t.reply))).1 l.reply)

-- no entry is local where the turn isn't
pub not-local : (z : Name) (w : World) (e : Entry) → local_turn w.brands (objects_of w) w.desk ≡ None → is_local z w e ≡ false
not-local z w e h = at_test (is_local z w e) refl
  where
    at_test : (b : Bool) → is_local z w e ≡ b → b ≡ false
    at_test false is = refl
    at_test true is = let found = local-turn z w e is in let same : Some found.0 ≡ None = sym found.1.decided ∙ h in absurd (cc)

pub local-one : (z : Name) (S : State) (e : Entry) (t : Turned) → Local z (world z S) e t → one S e.event e.grant ≡ done_by z None (turned_act (record { came = None; effect = t })) S
local-one z S e t l = ap (λ x. one S x e.grant) l.event ∙ (one-turn z S e.grant ∙ ap (λ (d : Turn_decision). done_by z None (turned_act (decisions.act_of arrived d e.grant)) S) (decided (world z S) t l.decided))

-- it is told as it is, and under the grant that the pools give
pub subject-turn : (S : State) (z : Name) → subject S (Turn z) ≡ Zone z
unfolding subject
subject-turn S z = refl

allowed-just : (z : Name) (S : State) (t : Turned) → turn (seen_of (world z S)) ≡ Just t → allowed S (Turn z) ≡ Nothing
unfolding allowed subject decide view
allowed-just z S t is = ap (λ (d : Turn_decision). said_by_all (pools_of S) z (asked_of (effects turned d)) Nothing) is

pub local-right : (z : Name) (S : State) (e : Entry) → is_local z (world z S) e ≡ true → (is_told S e ≡ true) × (is_allowed S e.event e.grant ≡ true)
local-right z S e h =
    let found = local-turn z (world z S) e h in let t = found.0 in let l = found.1 in
    let whose : e.subject ≡ subject S e.event = l.subject ∙ sym (ap (subject S) l.event ∙ subject-turn S z) in
    let reply : e.reply ≡ (one S e.event e.grant).reply = l.reply ∙ sym (ap (λ (r : Answered). r.reply) (local-one z S e t l)) in
    let grant : e.grant ≡ allowed S e.event = l.grant ∙ sym (ap (allowed S) l.event ∙ allowed-just z S t (decided (world z S) t l.decided)) in (
      and_from _ _ ((subject-Decides e.subject (subject S e.event)).1 whose) ((reply-Decides e.reply (one S e.event e.grant).reply).1 reply),
      (grant-Decides e.grant (allowed S e.event)).1 grant,
    )

-- an id that keeps its number
zids-kept : (y z : Name) (f : Id → Id) (n : ℕ) (os : List (Owned Id)) → list_any (has_zid n) (mine y (edit_list z (Change (keeping_zid f)) os)) ≡ list_any (has_zid n) (mine y os)
zids-kept y z f n [] = refl
zids-kept y z f n (o ∷ os) = at_tests (zids-kept y z f n os) (bytes_eq z o.zone) (bytes_eq y o.zone) refl refl
  where
    at_tests : list_any (has_zid n) (mine y (edit_list z (Change (keeping_zid f)) os)) ≡ list_any (has_zid n) (mine y os)
        → (b c : Bool) → bytes_eq z o.zone ≡ b → bytes_eq y o.zone ≡ c → list_any (has_zid n) (mine y (edit_list z (Change (keeping_zid f)) (o ∷ os))) ≡ list_any (has_zid n) (mine y (o ∷ os))
    at_tests ih true true d e = simp (d, e) (ap (λ b. has_zid n o.it || b) ih)
    at_tests ih true false d e = simp (d, e) ih
    at_tests ih false true d e = simp (d, e) (ap (λ b. has_zid n o.it || b) ih)
    at_tests ih false false d e = simp (d, e) ih

-- it leaves what is common, but for the start
common-desk : (z : Name) (d : Desk) (S : State) → d.active ≡ (S.desks z).active → common (edit z None (Set_desk d) S) ≡ common S
unfolding edit
common-desk z d S active = λ i. record (common S) { up = λ y. at_zone y (bytes_eq z y) refl i }
  where
    at_zone : (y : Name) (b : Bool) → bytes_eq z y ≡ b → is_some (if b then d else S.desks y).active ≡ is_some (S.desks y).active
    at_zone y true e = ap is_some active ∙ ap (λ x. is_some (S.desks x).active) (same_true z y e)
    at_zone y false e = refl

common-edits : (z : Name) (es : List Object_edit) (d : Desk) (S : State) → list_all is_of_own es ≡ true → d.active ≡ (S.desks z).active
    → common (edits z None (map Of_objects es ++ Set_desk d ∷ []) S) ≡ common S
unfolding edit
common-edits z [] d S h active = common-desk z d S active
common-edits z (Of_mounts e ∷ es) d S h active = common-edits z es d (edit z None (Of_objects (Of_mounts e)) S) h active
common-edits z (Devices_are ds ∷ es) d S h active = common-edits z es d (edit z None (Of_objects (Devices_are ds)) S) h active
common-edits z (Ids_change f ∷ es) d S h active =
    common-edits z es d (edit z None (Of_objects (Ids_change f)) S) h active ∙ λ i. record (common S) { zids = λ y n. zids-kept y z f n S.ids i }
common-edits z (_ ∷ es) d S h active = absurd (false≢true h)

pub local-common : (z : Name) (S : State) (e : Entry) → is_local z (world z S) e ≡ true → common (one S e.event e.grant).state ≡ record (common S) { started = true }
local-common z S e h =
    let found = local-turn z (world z S) e h in let t = found.0 in let l = found.1 in
    ap (λ (r : Answered). common r.state) (local-one z S e t l)
    ∙ (ap (λ o. common (started (edits z None (map Of_objects t.objects ++ Set_desk t.desk ∷ sweeps o) S))) l.stays.ended
    ∙ ap (λ (c : Common). record c { started = true }) (common-edits z t.objects t.desk S l.stays.own l.stays.active))

-- of the zone's world it changes the mounts, the devices, the id and the desk alone
world-edits : (es : List Object_edit) (d : Desk) (w : World) → list_all is_of_own es ≡ true
    → edits_world None (map Of_objects es ++ Set_desk d ∷ []) w ≡ record w { mounts = mounts_after es w.mounts; devices = devices_after es w.devices; ids = ids_after es w.ids; desk = d }
world-edits [] d w h = refl
world-edits (Of_mounts e ∷ es) d w h = world-edits es d (edit_world None (Of_objects (Of_mounts e)) w) h
world-edits (Devices_are ds ∷ es) d w h = world-edits es d (edit_world None (Of_objects (Devices_are ds)) w) h
world-edits (Ids_change f ∷ es) d w h = world-edits es d (edit_world None (Of_objects (Ids_change f)) w) h
world-edits (_ ∷ es) d w h = absurd (false≢true h)

pub world-after : (z : Name) (S : State) (e : Entry) (t : Turned) → Local z (world z S) e t
    → world z (one S e.event e.grant).state ≡ record (world z S) { mounts = mounts_after t.objects (world z S).mounts; devices = devices_after t.objects (world z S).devices; ids = ids_after t.objects (world z S).ids; desk = t.desk }
world-after z S e t l =
    let w = world z S in
    ap (λ (r : Answered). world z r.state) (local-one z S e t l)
    ∙ (own-acts z None (turned_act (record { came = None; effect = t })) S
    ∙ (ap (λ o. edits_world None (map Of_objects t.objects ++ Set_desk t.desk ∷ sweeps o) w) l.stays.ended ∙ world-edits t.objects t.desk w l.stays.own))

pub local-world : (z : Name) (S : State) (e : Entry) → is_local z (world z S) e ≡ true
    → (ms : List MountEntry) × (ds : List (List ℕ)) × (is : List Id) × (d : Desk) × (world z (one S e.event e.grant).state ≡ record (world z S) { mounts = ms; devices = ds; ids = is; desk = d })
local-world z S e h =
    let found = local-turn z (world z S) e h in
    (mounts_after found.0.objects (world z S).mounts, devices_after found.0.objects (world z S).devices, ids_after found.0.objects (world z S).ids, found.0.desk, world-after z S e found.0 found.1)

-- it isn't idle
awake : (r : TurnReply) → is_idle r ≡ false → says (Told r) ≢ says (Told Idle)
awake r h same = let head : Told r ≡ Told Idle = ap (λ r. r.head) same in let e : r ≡ Idle = cc in false≢true (sym h ∙ ap is_idle e)

pub local-awake : (z : Name) (w : World) (e : Entry) → is_local z w e ≡ true → e.reply ≢ says (Told Idle)
local-awake z w e h same = let found = local-turn z w e h in let l = found.1 in awake found.0.reply l.stays.busy (sym l.reply ∙ same)

-- nor is a turn of a zone that has work
busy-act : (d : Turn_decision) (g : Grant) → IsAwake d → is_idle (decisions.act_of arrived d g).effect.reply ≡ false
busy-act (Just t) g h = h
busy-act (Ask c asked denied given) g h = in-act (λ c (t : Turned). is_idle t.reply ≡ false) (Ask c asked denied given) g h

pub busy-awake : (w : World) (g : Grant) → is_busy w ≡ true → is_idle (turn_act w g).effect.reply ≡ false
busy-awake w g h = busy-act (turn (seen_of w)) g (awake-turn (seen_of w) h)

pub busy-turn : (z : Name) (S : State) (g : Grant) → is_busy (world z S) ≡ true → (one S (Turn z) g).reply ≢ says (Told Idle)
busy-turn z S g h same = awake (turn_act (world z S) g).effect.reply (busy-awake (world z S) g h) (sym (turn-reply z S g) ∙ same)
