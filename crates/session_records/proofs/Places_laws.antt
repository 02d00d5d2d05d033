-- What is done in one place leaves the worlds of all others, and hangs on the place's own world.
use Rattle.std.proofs.Common.{◌≡◌, ◌&&◌, ◌∷◌, ◌++◌, [], ℕ, ◌+◌, ◌<◌, ◌≤◌, List, Bool, Option, Some, None, true, false, ap, arith, nat_eq, not, refl, sym, subst, ◌∙◌}
use Rattle.std.specs.Prelude.{◌≢◌, bytes_eq, if◌then◌else◌}
use Rattle.std.proofs.lemmas.Bool.{and_from, and_parts, eq-eqb, eqb-true, false≢true, false_from_ne_true}
use Rattle.brand_hooks.specs.Brands.{Tabled}
use Rattle.commit_journal.specs.declared.records.Commit.{Commit}
use Rattle.zn_base.specs.Names.{Name}
use Rattle.zone_pools.proofs.Owned_laws.{same_self, same_true}
use Rattle.zone_pools.specs.declared.grant.Grant.{Grant}
use Rattle.zone_cases.specs.State.{State}
use Rattle.zone_cases.specs.State.Decisions.{says}
use Rattle.zone_cases.specs.State.Worlds.{World, world}
use Rattle.zone_cases.specs.declared.events.Entry.{Entry}
use Rattle.zone_cases.specs.declared.events.Event.{Event}
use Rattle.zone_cases.specs.declared.events.Event.TheVariants.{Process as Call_of, Restart, Session, System, Turn}
use Rattle.zone_cases.specs.declared.events.Subject.{Subject}
use Rattle.zone_cases.specs.declared.events.Subject.TheVariants.{Global, Whole, Zone}
use Rattle.zone_cases.specs.declared.replies.Head.TheVariants.{Turned as Told}
use Rattle.zone_cases.specs.declared.replies.Reply.{Reply}
use Rattle.zone_machine.proofs.Alone.{moves-world}
use Rattle.zone_machine.proofs.Local_laws.{busy-awake, local-right, local-turn, subject-turn}
use Rattle.zone_machine.proofs.Own_worlds.{world_by-other}
use Rattle.zone_machine.proofs.Same_laws.{reply-Decides, subject-Decides}
use Rattle.zone_machine.proofs.Turned_laws.{turn-reply, turn_act}
use Rattle.zone_machine.specs.Machine.{one, opening, subject}
use Rattle.zone_machine.specs.Machine.Common.{common}
use Rattle.zone_machine.specs.Machine.Histories.{after, after_entry, concerns, is_allowed, is_told, world_one}
use Rattle.zone_machine.specs.Machine.Local.{is_busy, is_local, is_turn_of}
use Rattle.zone_machine.specs.Machine.Same.{same_reply, same_subject}
use Rattle.zone_views.proofs.Under_way.{local-leaves-history}
use Rattle.session_records.specs.Places.{AreApart, is_local_at, is_local_of, is_right_at, own_world_by, own_world_one, place_from, place_of, state_after, world_at, world_of_zone, zone_at, zone_from}
use Rattle.session_records.specs.Records.{is_idle_head, may_stand}

-- a place that isn't 0 is its zone's
place-behind : (n : ℕ) (zones : List Name) (z : Name) → place_from n zones z ≢ 0 → n ≤ place_from n zones z
place-behind n [] z some = absurd (some refl)
place-behind n (y ∷ ys) z some = at_test (place-behind (n + 1) ys z) (bytes_eq y z) refl
  where
    at_test : (place_from (n + 1) ys z ≢ 0 → n + 1 ≤ place_from (n + 1) ys z) → (b : Bool) → bytes_eq y z ≡ b → n ≤ place_from n (y ∷ ys) z
    at_test behind true t = rw t (omega arith)
    at_test behind false t =
        let is : place_from n (y ∷ ys) z ≡ place_from (n + 1) ys z = rw t refl in
        let more = behind (λ none. some (is ∙ none)) in omega (arith, is)

zone-of-place : (n : ℕ) (zones : List Name) (z : Name) → place_from n zones z ≢ 0 → zone_from n zones (place_from n zones z) ≡ Some z
zone-of-place n [] z some = absurd (some refl)
zone-of-place n (y ∷ ys) z some = at_test (zone-of-place (n + 1) ys z) (bytes_eq y z) refl
  where
    at_test : (place_from (n + 1) ys z ≢ 0 → zone_from (n + 1) ys (place_from (n + 1) ys z) ≡ Some z) → (b : Bool) → bytes_eq y z ≡ b → zone_from n (y ∷ ys) (place_from n (y ∷ ys) z) ≡ Some z
    at_test found true t =
        let is : place_from n (y ∷ ys) z ≡ n = rw t refl in
        let here : zone_from n (y ∷ ys) n ≡ Some y = rw (eq-eqb n n refl) refl in
        ap (zone_from n (y ∷ ys)) is ∙ (here ∙ ap Some (same_true y z t))
    at_test found false t =
        let is : place_from n (y ∷ ys) z ≡ place_from (n + 1) ys z = rw t refl in
        let rest : place_from (n + 1) ys z ≢ 0 = λ none. some (is ∙ none) in
        let behind = place-behind (n + 1) ys z rest in
        let other : nat_eq n (place_from (n + 1) ys z) ≡ false = false_from_ne_true (nat_eq n (place_from (n + 1) ys z)) (λ e. let same = eqb-true n (place_from (n + 1) ys z) e in absurd (omega (arith, same, behind))) in
        let there : zone_from n (y ∷ ys) (place_from (n + 1) ys z) ≡ zone_from (n + 1) ys (place_from (n + 1) ys z) = rw other refl in
        ap (zone_from n (y ∷ ys)) is ∙ (there ∙ found rest)

record Right (zones : List Name) (S : State) (e : Entry) : Type 0 where
  told : is_told S e ≡ true
  allowed : is_allowed S e.event e.grant ≡ true
  placed : place_of zones e.subject ≢ 0

right : (zones : List Name) (S : State) (e : Entry) → is_right_at zones S e ≡ true → Right zones S e
right zones S e h =
    let parts = and_parts (is_told S e && is_allowed S e.event e.grant) (not (nat_eq (place_of zones e.subject) 0)) h in
    let more = and_parts (is_told S e) (is_allowed S e.event e.grant) parts.0 in
    record { told = more.0; allowed = more.1; placed = λ none. false≢true (ap (λ b. not b) (sym (eq-eqb (place_of zones e.subject) 0 none)) ∙ parts.1) }

module _ (zones : List Name) (S : State) (e : Entry) where
  -- an entry of another place
  pub others-stay : AreApart zones → is_right_at zones S e ≡ true → (p : ℕ) → place_of zones e.subject ≢ p → world_at zones p (after_entry S e) ≡ world_at zones p S
  others-stay apart h p other = at_zone (zone_at zones p) refl
    where
      r : Right zones S e
      r = right zones S e h

      at_subject : (z : Name) → zone_at zones p ≡ Some z → (s : Subject) → place_of zones s ≢ 0 → place_of zones s ≢ p → concerns z s ≡ false
      at_subject z is (Zone y) placed away =
          false_from_ne_true (bytes_eq z y) (λ t. away (ap (λ x. place_of zones (Zone x)) (sym (same_true z y t)) ∙ apart p z is))
      at_subject z is Global placed away = refl
      at_subject z is Whole placed away = absurd (placed refl)

      at_zone : (o : Option Name) → zone_at zones p ≡ o → world_of_zone o (after_entry S e) ≡ world_of_zone o S
      at_zone None is = refl
      at_zone (Some z) is = moves-world z S e r.told ∙ world_by-other z e.subject (world z S) e.event e.grant (at_subject z is e.subject r.placed other)

  -- an entry of its own
  pub own-moves : is_right_at zones S e ≡ true → world_at zones (place_of zones e.subject) (after_entry S e) ≡ own_world_one (world_at zones (place_of zones e.subject) S) e
  own-moves h = at_subject e.subject refl r.placed
    where
      r : Right zones S e
      r = right zones S e h

      at_subject : (s : Subject) → e.subject ≡ s → place_of zones s ≢ 0 → world_at zones (place_of zones s) (after_entry S e) ≡ own_world_by s (world_at zones (place_of zones s) S) e
      at_subject (Zone z) is placed =
          let here : zone_at zones (place_from 2 zones z) ≡ Some z = zone-of-place 2 zones z placed in
          ap (λ o. world_of_zone o (after_entry S e)) here ∙ (moves-world z S e r.told ∙ ap (λ o. world_one z (world_of_zone o S) e) (sym here))
      at_subject Global is placed = global_stays (zone_at zones 1) refl
        where
          global_stays : (o : Option Name) → zone_at zones 1 ≡ o → world_of_zone o (after_entry S e) ≡ world_of_zone o S
          global_stays None at = refl
          global_stays (Some z) at = moves-world z S e r.told ∙ world_by-other z e.subject (world z S) e.event e.grant (ap (concerns z) is)
      at_subject Whole is placed = absurd (placed refl)

  -- a busy zone's turn
  pub busy-works : is_right_at zones S e ≡ true → (z : Name) → e.event ≡ Turn z → is_busy (world_at zones (place_of zones e.subject) S) ≡ true → may_stand e.event e.reply.head ≡ true
  busy-works h z turns busy =
      let r = right zones S e h in
      let told = and_parts (same_subject e.subject (subject S e.event)) (same_reply e.reply (one S e.event e.grant).reply) r.told in
      let whose : e.subject ≡ Zone z = (subject-Decides e.subject (subject S e.event)).0 told.0 ∙ (ap (subject S) turns ∙ subject-turn S z) in
      let here : zone_at zones (place_of zones e.subject) ≡ Some z = ap (λ s. zone_at zones (place_of zones s)) whose ∙ zone-of-place 2 zones z (subst (λ s. place_of zones s ≢ 0) whose r.placed) in
      let at_work : is_busy (world z S) ≡ true = sym (ap (λ o. is_busy (world_of_zone o S)) here) ∙ busy in
      let reply : e.reply ≡ says (Told (turn_act (world z S) e.grant).effect.reply) =
      (reply-Decides e.reply (one S e.event e.grant).reply).0 told.1 ∙ (ap (λ x. (one S x e.grant).reply) turns ∙ turn-reply z S e.grant) in
      ap (λ x. may_stand x e.reply.head) turns ∙ (ap (λ (r : Reply). not (is_idle_head r.head)) reply ∙ ap not (busy-awake (world z S) e.grant at_work))

module _ (zones : List Name) (p : ℕ) where
  -- a local turn is of its place, and not idle
  pub local-place : AreApart zones → (w : World) (e : Entry) → is_local_at zones p w e ≡ true → place_of zones e.subject ≡ p
  local-place apart w e h = at_zone (zone_at zones p) refl h
    where
      at_zone : (o : Option Name) → zone_at zones p ≡ o → is_local_of o w e ≡ true → place_of zones e.subject ≡ p
      at_zone None is h = absurd (false≢true h)
      at_zone (Some z) is h = let l = (local-turn z w e h).1 in ap (place_of zones) l.subject ∙ apart p z is

  pub local-works : (w : World) (e : Entry) → is_local_at zones p w e ≡ true → (z : Name) × ((e.event ≡ Turn z) × (may_stand e.event e.reply.head ≡ true))
  local-works w e h = at_zone (zone_at zones p) h
    where
      at_zone : (o : Option Name) → is_local_of o w e ≡ true → (z : Name) × ((e.event ≡ Turn z) × (may_stand e.event e.reply.head ≡ true))
      at_zone None h = absurd (false≢true h)
      at_zone (Some z) h =
          let l = (local-turn z w e h).1 in (
            z,
            (l.event, ap (λ x. may_stand x e.reply.head) l.event ∙ (ap (λ (r : Reply). not (is_idle_head r.head)) l.reply ∙ ap not l.stays.busy)),
          )

  -- it is right where the place has that world, and leaves what is common
  pub local-right-at : AreApart zones → (S : State) (e : Entry) → p ≢ 0 → is_local_at zones p (world_at zones p S) e ≡ true → is_right_at zones S e ≡ true
  local-right-at apart S e some h = at_zone (zone_at zones p) refl h
    where
      at_zone : (o : Option Name) → zone_at zones p ≡ o → is_local_of o (world_of_zone o S) e ≡ true → is_right_at zones S e ≡ true
      at_zone None is h = absurd (false≢true h)
      at_zone (Some z) is h =
          let right = local-right z S e h in
          let place : place_of zones e.subject ≡ p = ap (place_of zones) (local-turn z (world z S) e h).1.subject ∙ apart p z is in
          and_from _ _ (and_from _ _ right.0 right.1) (ap not (ap (λ q. nat_eq q 0) place ∙ false_from_ne_true (nat_eq p 0) (λ t. some (eqb-true p 0 t))))

  pub local-leaves-common : (brands : List Tabled) (R : List Commit) (g : List Entry) (e : Entry) → is_local_at zones p (world_at zones p (state_after brands R g)) e ≡ true
      → common (after_entry (state_after brands R g) e) ≡ common (state_after brands R g)
  local-leaves-common brands R g e h = at_zone (zone_at zones p) h
    where
      at_zone : (o : Option Name) → is_local_of o (world_of_zone o (state_after brands R g)) e ≡ true → common (after_entry (state_after brands R g) e) ≡ common (state_after brands R g)
      at_zone None h = absurd (false≢true h)
      at_zone (Some z) h = local-leaves-history z brands R g e h
