-- The laws of the machine as threads see it.
use Rattle.std.proofs.Common.{◌≡◌, ◌&&◌, ◌∷◌, ◌++◌, [], ℕ, ◌+◌, ◌≤◌, List, Bool, Option, Some, None, true, false, ap, arith, nat_eq, refl, subst, sym, ◌∙◌}
use Rattle.std.specs.Prelude.{◌≢◌, not}
use Rattle.std.proofs.lemmas.Bool.{and_parts, eqb-true, false≢true}
use Rattle.brand_hooks.specs.Brands.{Tabled}
use Rattle.commit_journal.specs.declared.records.Commit.{Commit}
use Rattle.session_records.proofs.Places_laws.{busy-works, local-leaves-common, local-right-at, local-works, others-stay, own-moves}
use Rattle.session_records.specs.Places.{AreApart, is_local_at, is_local_of, is_right_at, place_of, state_after, world_at, world_of_zone, zone_at, zone_from}
use Rattle.session_records.specs.Records.{is_idle_head, may_stand}
use Rattle.zn_base.specs.Names.{Name}
use Rattle.zn_io.specs.Disk.{View}
use Rattle.zone_cases.specs.State.{State}
use Rattle.zone_cases.specs.State.Worlds.{World}
use Rattle.zone_cases.specs.declared.events.Entry.{Entry}
use Rattle.zone_cases.specs.declared.events.Event.{Event}
use Rattle.zone_cases.specs.declared.events.Event.TheVariants.{Process as Call_of, Restart, Session, System, Turn}
use Rattle.zone_cases.specs.declared.events.Subject.TheVariants.{Zone}
use Rattle.zone_cases.specs.declared.replies.Head.{Head}
use Rattle.zone_cases.specs.declared.replies.Head.TheVariants.{Ticket, Turned}
use Rattle.zone_machine.proofs.Local_laws.{local-turn}
use Rattle.zone_machine.specs.Machine.{opening, subject}
use Rattle.zone_machine.specs.Machine.Common.{common}
use Rattle.zone_machine.specs.Machine.Histories.{after, after_entry}
use Rattle.zone_machine.specs.Machine.Local.{is_busy, is_local}
use Rattle.zone_machine.specs.Shown.{shown}
use Rattle.zone_threads.specs.Machines.{Laws}
use Rattle.zone_threads.specs.declared.machine.Said.TheVariants as says
use Rattle.zoneadmd_steps.specs.declared.requests.TurnReply.{TurnReply}
use Rattle.zoneadmd_steps.specs.declared.requests.TurnReply.TheVariants.{Finished, Idle, Stuck}
use Rattle.daemon_threads.specs.Worlds.{brands-one, commits-local, shown-local, whose-local}
use Rattle.daemon_threads.specs.Definitions.{daemons, is_busy_of, is_placed, line_says, said_by, session_of, state_in, state_of, turn_says, turned_says}

-- the history in its order
abbrev backwards : List Entry → List Entry
backwards [] = []
backwards (e ∷ h) = backwards h ++ e ∷ []

after-last : (S : State) (g : List Entry) (e : Entry) → after S (g ++ e ∷ []) ≡ after_entry (after S g) e
after-last S [] e = refl
after-last S (x ∷ g) e = after-last (after_entry S x) g e

pub state-after : (brands : List Tabled) (commits : List Commit) (h : List Entry) → state_in brands commits h ≡ state_after brands commits (backwards h)
state-after brands commits [] = refl
state-after brands commits (e ∷ h) = ap (λ S. after_entry S e) (state-after brands commits h) ∙ sym (after-last (opening brands commits) (backwards h) e)

pub brands-in : (brands : List Tabled) (commits : List Commit) (h : List Entry) → (state_in brands commits h).brands ≡ brands
brands-in brands commits [] = refl
brands-in brands commits (e ∷ h) = brands-one (state_in brands commits h) e.event e.grant ∙ brands-in brands commits h

-- the place of a zone isn't 0
pub zone-behind : (n : ℕ) (zones : List Name) (p : ℕ) (z : Name) → zone_from n zones p ≡ Some z → n ≤ p
zone-behind n [] p z is = absurd (cc)
zone-behind n (y ∷ ys) p z is = at_test (zone-behind (n + 1) ys p z) (nat_eq n p) refl
  where
    at_test : (zone_from (n + 1) ys p ≡ Some z → n + 1 ≤ p) → (b : Bool) → nat_eq n p ≡ b → n ≤ p
    at_test behind true t = let same = eqb-true n p t in omega (arith, same)
    at_test behind false t = let rest : zone_from (n + 1) ys p ≡ Some z = simp t at is in let more = behind rest in omega (arith, more)

pub place-some : (zones : List Name) (p : ℕ) (z : Name) → zone_at zones p ≡ Some z → p ≢ 0
place-some zones p z is none = let behind = zone-behind 2 zones p z is in absurd (omega (arith, none, behind))

-- what may stand says that it isn't idle
turn-awake : (r : TurnReply) → not (is_idle_head (Turned r)) ≡ true → turn_says r ≢ says.Idle
turn-awake Idle may said = false≢true may
turn-awake (Finished t outcome) may said = cc
turn-awake Stuck may said = cc
turn-awake _ may said = cc

head-awake : (head : Head) → not (is_idle_head head) ≡ true → turned_says head ≢ says.Idle
head-awake (Turned r) may said = turn-awake r may said
head-awake _ may said = cc

line-awake : (head : Head) → line_says head ≢ says.Idle
line-awake (Ticket t) said = cc
line-awake _ said = cc

turn-works : (e : Event) (head : Head) (z : Name) → e ≡ Turn z → may_stand e head ≡ true → said_by e head ≢ says.Idle
turn-works e head z is may said =
    head-awake head (subst (λ x. may_stand x head ≡ true) is may) (subst (λ x. said_by x head ≡ says.Idle) is said)

local-idle : (o : Option Name) (w : World) (e : Entry) → is_local_of o w e ≡ true → said_by e.event e.reply.head ≢ says.Idle
local-idle None w e h = absurd (false≢true h)
local-idle (Some z) w e h = let works = works_of in turn-works e.event e.reply.head works.0 works.1.0 works.1.1
  where
    works_of : (y : Name) × ((e.event ≡ Turn y) × (may_stand e.event e.reply.head ≡ true))
    works_of = local-works (z ∷ []) 2 w e h

module _ (zones : List Name) where
  local-some : (p : ℕ) → is_placed zones p (zone_at zones p) ≡ true → p ≢ 0
  local-some p placed = at_zone (zone_at zones p) refl placed
    where
      at_zone : (o : Option Name) → zone_at zones p ≡ o → is_placed zones p o ≡ true → p ≢ 0
      at_zone None is h = absurd (false≢true h)
      at_zone (Some z) is h = place-some zones p z is

  local-common : (brands : List Tabled) (commits : List Commit) (p : ℕ) (h : List Entry) (e : Entry) → is_local_at zones p (world_at zones p (state_in brands commits h)) e ≡ true → common (after_entry (state_in brands commits h) e) ≡ common (state_in brands commits h)
  local-common brands commits p h e =
      subst (λ S. is_local_at zones p (world_at zones p S) e ≡ true → common (after_entry S e) ≡ common S) (sym (state-after brands commits h)) (local-leaves-common zones p brands commits (backwards h) e)

  local-shown : (p : ℕ) (S : State) (e : Entry) → is_local_at zones p (world_at zones p S) e ≡ true → (y : Name) → shown (after_entry S e) y ≡ shown S y
  local-shown p S e local y = at_zone (zone_at zones p) local
    where
      at_zone : (o : Option Name) → is_local_of o (world_of_zone o S) e ≡ true → shown (after_entry S e) y ≡ shown S y
      at_zone None h = absurd (false≢true h)
      at_zone (Some z) h = shown-local z S e h y

  local-commits : (p : ℕ) (S : State) (e : Entry) → is_local_at zones p (world_at zones p S) e ≡ true → (after_entry S e).commits ≡ S.commits
  local-commits p S e local = at_zone (zone_at zones p) local
    where
      at_zone : (o : Option Name) → is_local_of o (world_of_zone o S) e ≡ true → (after_entry S e).commits ≡ S.commits
      at_zone None h = absurd (false≢true h)
      at_zone (Some z) h = commits-local z S e h

  local-whose : (p : ℕ) (S : State) (e : Entry) → is_local_at zones p (world_at zones p S) e ≡ true → (n : ℕ) (text : List ℕ) → subject (after_entry S e) (Session n text) ≡ subject S (Session n text)
  local-whose p S e local n text = at_zone (zone_at zones p) local
    where
      at_zone : (o : Option Name) → is_local_of o (world_of_zone o S) e ≡ true → subject (after_entry S e) (Session n text) ≡ subject S (Session n text)
      at_zone None h = absurd (false≢true h)
      at_zone (Some z) h = whose-local z S e h n text

  -- a local turn is one of the zone of its place
  record IsOfPlace (p : ℕ) (w : World) (e : Entry) : Type 0 where
    zone : Name
    place : place_of zones (Zone zone) ≡ p
    local : is_local zone w e ≡ true

  local-of : (p : ℕ) (o : Option Name) (w : World) (e : Entry) → (is_placed zones p o && is_local_of o w e) ≡ true → IsOfPlace p w e
  local-of p None w e h = absurd (false≢true h)
  local-of p (Some z) w e h =
      let parts = and_parts (nat_eq (place_of zones (Zone z)) p) (is_local z w e) h in
      record { zone = z; place = eqb-true (place_of zones (Zone z)) p parts.0; local = parts.1 }

  busy-idle : (S : State) (e : Entry) → is_right_at zones S e ≡ true → is_busy_of (zone_at zones (place_of zones e.subject)) (world_at zones (place_of zones e.subject) S) ≡ true → said_by e.event e.reply.head ≢ says.Idle
  busy-idle S e right busy = at_event e.event refl
    where
      w : World
      w = world_at zones (place_of zones e.subject) S

      at_zone : (o : Option Name) → is_busy_of o w ≡ true → is_busy w ≡ true
      at_zone None h = absurd (false≢true h)
      at_zone (Some z) h = h

      at_event : (x : Event) → e.event ≡ x → said_by x e.reply.head ≢ says.Idle
      at_event (Session n text) is said = line-awake e.reply.head said
      at_event (Turn z) is said =
          head-awake e.reply.head (subst (λ x. may_stand x e.reply.head ≡ true) is (busy-works zones S e right z is (at_zone (zone_at zones (place_of zones e.subject)) busy))) said
      at_event (Call_of z pid c) is said = cc
      at_event (System what) is said = cc
      at_event Restart is said = cc

pub laws : {D : Type 0} (view : D → View) (v : View) (zones : List Name) (brands : List Tabled) → AreApart zones → Laws (daemons view v zones brands)
laws view v zones brands apart = record {
  others_stay = λ p s e right other. ap (λ w. record { zone = zone_at zones p; world = w }) (others-stay zones (state_of brands s) e apart right p other);
  own_moves = λ s e right. ap (λ w. record { zone = zone_at zones (place_of zones e.subject); world = w }) (own-moves zones (state_of brands s) e right);
  local_right = λ p s e local.
      let S = state_of brands s in
      let parts = and_parts (is_placed zones p (zone_at zones p)) (is_local_at zones p (world_at zones p S) e) local in
      local-right-at zones p apart S e (local-some zones p parts.0) parts.1;
  local_common = λ p s e local.
      let S = state_of brands s in
      let is = (and_parts (is_placed zones p (zone_at zones p)) (is_local_at zones p (world_at zones p S) e) local).1 in
      λ i. record { stored = s.stored; now = record { common = local-common zones brands s.commits p s.entries e is i; shown = λ y. local-shown zones p S e is y i; commits = local-commits zones p S e is i; whose = λ n text. local-whose zones p S e is n text i } };
  local_by = λ p w e local. let found = local-of zones p w.zone w.world e local in ap (place_of zones) (local-turn found.zone w.world e found.local).1.subject ∙ found.place;
  local_turn = λ p w e local. let found = local-of zones p w.zone w.world e local in ap session_of (local-turn found.zone w.world e found.local).1.event;
  local_works = λ p w e local. local-idle w.zone w.world e (and_parts (is_placed zones p w.zone) (is_local_of w.zone w.world e) local).1;
  busy_works = λ s e right turn busy. busy-idle zones (state_of brands s) e right busy;
}
