-- What a reply to a zone names is one of the zone's own objects.
use Rattle.std.proofs.Common.{◌≡◌, ◌⊎◌, ◌∷◌, ◌++◌, [], ◌&&◌, ◌∙◌, List, Bool, Option, None, true, inl, inr, ap, refl, subst, sym}
use Rattle.std.specs.Prelude.{IfSome, if◌then◌else◌}
use Rattle.std.proofs.lemmas.Bool.{and_parts}
use Rattle.std.specs.List.{AllByRecursion, Contains}
use Rattle.zn_base.specs.Names.{Name}
use Rattle.brand_hooks.specs.Brands.{Tabled}
use Rattle.commit_journal.specs.Bodies.{IsRecord}
use Rattle.commit_journal.specs.declared.records.Commit.{Commit}
use Rattle.commit_journal.specs.declared.records.Record.{Record}
use Rattle.zone_pools.proofs.Owned_laws.{same_self}
use Rattle.zone_pools.specs.declared.grant.Grant.{Grant}
use Rattle.zoneadmd_laws.specs.Agreement.{Agrees}
use Rattle.zoneadmd_steps.specs.Arrivals.{Arrival}
use Rattle.zoneadmd_steps.specs.Turns.{Seen}
use Rattle.zone_machine.proofs.Own_worlds.{view-world, world-one}
use Rattle.zone_machine.proofs.Same_laws.{reply-Decides, subject-Decides}
use Rattle.zone_machine.proofs.Turned_laws.{decide-turn, in-act, turn_act}
use Rattle.zone_machine.specs.Code.Works.{turned_act}
use Rattle.zone_machine.specs.Machine.{decide, one, one_of, opening, session_number, subject}
use Rattle.zone_machine.specs.Machine.Histories.{after, after_entry, is_history, is_told, world_by}
use Rattle.zone_machine.specs.Machine.Same.{same_reply, same_subject}
use Rattle.zone_cases.specs.State.{State, stored}
use Rattle.zone_cases.specs.State.Decisions.{Act, Effect, act_of, acts_world}
use Rattle.zone_cases.specs.State.Worlds.{World, objects_of, seen_of, view, view_of, world}
use Rattle.zone_cases.specs.declared.events.Entry.{Entry}
use Rattle.zone_cases.specs.declared.events.Event.{Event}
use Rattle.zone_cases.specs.declared.events.Event.TheVariants.{Process as Call_of, Restart, Session, System, Turn}
use Rattle.zone_cases.specs.declared.events.Subject.TheVariants.{Zone}
use Rattle.zone_cases.specs.declared.replies.Reply.{Reply}
use Rattle.zone_views.proofs.Belonging.{IsIn, all-of, contained, each-both, each-so, in-left, in-right}
use Rattle.zone_views.proofs.Naming_cases.{case_told}
use Rattle.zone_views.proofs.Naming_turns.{turn-good}
use Rattle.zone_views.proofs.Settled.{Settled, agrees, seen-turn, settled-after}
use Rattle.zone_views.specs.Naming.{AreAmong, Object, consoles, granted, named_by_turn, names, objects, own, tables}
use Rattle.zone_views.specs.Storable.{IsRight}

-- the objects of z at an event, by its world before and after
abbrev own_by : Name → World → World → Act → List Object
own_by z w v a = objects z w ++ objects z v ++ granted z a.came

module _ (z : Name) (w v : World) (a : Act) where
  before : (o : Object) → IsIn o (tables z (objects_of w)) → IsIn o (own_by z w v a)
  before o h = in-left o (objects z w ++ objects z v) (granted z a.came) (in-left o (objects z w) (objects z v) (in-left o (tables z (objects_of w)) (consoles z w.console) h))

  later : (o : Object) → IsIn o (tables z (objects_of v)) → IsIn o (own_by z w v a)
  later o h = in-left o (objects z w ++ objects z v) (granted z a.came) (in-right o (objects z w) (objects z v) (in-left o (tables z (objects_of v)) (consoles z v.console) h))

  given : (o : Object) → IsIn o (granted z a.came) → IsIn o (own_by z w v a)
  given o h = in-right o (objects z w ++ objects z v) (granted z a.came) h

module _ (z : Name) (w : World) (s : Settled w) (g : Grant) where
  abbrev act : Event → Act
  act e = act_of (decide (view_of z w) e) g

  abbrev left_by : Event → World
  left_by e = acts_world (session_number e) (act e) w

  abbrev Own : Event → Type 0
  Own e = AllByRecursion (λ o. IsIn o (own_by z w (left_by e) (act e))) (names z (act e).effect.reply)

  -- by what comes to the zone and is told
  of_turn : (b : Act) → b ≡ turned_act (turn_act w g) → AllByRecursion (λ o. IsIn o (own_by z w (acts_world None b w) b)) (names z b.effect.reply)
  of_turn b same =
      let good = turn-good z (seen_of w) g (agrees w s) s.right.stored s.zid in
      let turned = turned_act (turn_act w g) in
      let v = acts_world None turned w in
      let told = each-so _ (λ o. IsIn o (own_by z w v turned)) (named_by_turn z (turn_act w g).effect.reply)
      (λ o k. elim k [
        | inl old ↦ before z w v turned o old
        | inr new ↦ later z w v turned o (subst (λ (x : Seen). IsIn o (tables z x.objects)) (sym (seen-turn w g)) new)
      ]) good.named in
      subst (λ (b : Act). AllByRecursion (λ o. IsIn o (own_by z w (acts_world None b w) b)) (names z b.effect.reply)) (sym same) (each-both _ _ [] told tt)

  abbrev Told : Option Arrival → Effect → Type 0
  Told came e = AllByRecursion (λ o. IsIn o (tables z (objects_of w)) ⊎ IsIn o (granted z came)) (names z e.reply)

  of_case : (e : Event) → Told (act e).came (act e).effect → Own e
  of_case e told = each-so _ (λ o. IsIn o (own_by z w (left_by e) (act e))) (names z (act e).effect.reply)
      (λ o k. elim k [
        | inl old ↦ before z w (left_by e) (act e) o old
        | inr new ↦ given z w (left_by e) (act e) o new
      ]) told

  of_event : (e : Event) → Own e
  of_event (Session n text) = of_case (Session n text) (in-act Told (decide (view_of z w) (Session n text)) g (case_told z w s.parents (Session n text) refl))
  of_event (Call_of y pid c) = of_case (Call_of y pid c) (in-act Told (decide (view_of z w) (Call_of y pid c)) g (case_told z w s.parents (Call_of y pid c) refl))
  of_event (System what) = of_case (System what) (in-act Told (decide (view_of z w) (System what)) g (case_told z w s.parents (System what) refl))
  of_event Restart = of_case Restart (in-act Told (decide (view_of z w) Restart) g (case_told z w s.parents Restart refl))
  of_event (Turn y) = of_turn (act (Turn y)) (decide-turn z y w g)

-- of a state
left-by : (z : Name) (S : State) (e : Event) (g : Grant) → subject S e ≡ Zone z → world z (one S e g).state ≡ acts_world (session_number e) (act_of (decide (view_of z (world z S)) e) g) (world z S)
left-by z S e g is = world-one z S e g ∙ (ap (λ s. world_by s z (world z S) e g) is ∙ ap (λ b. if b then acts_world (session_number e) (act_of (decide (view_of z (world z S)) e) g) (world z S) else world z S) (same_self z))

reply-by : (z : Name) (S : State) (e : Event) (g : Grant) → subject S e ≡ Zone z → (one S e g).reply ≡ (act_of (decide (view_of z (world z S)) e) g).effect.reply
unfolding one
reply-by z S e g is = ap (λ s. (one_of s S e g).reply) is ∙ ap (λ v. (act_of (decide v e) g).effect.reply) (view-world z S)

pub names-own : (z : Name) (brands : List Tabled) (commits : List Commit) (h : List Entry) (e : Event) (g : Grant) → IfSome (stored z commits) IsRight
    → (let S = after (opening brands commits) h in subject S e ≡ Zone z → AreAmong (names z (one S e g).reply) (own z S e g))
names-own z brands commits h e g right is =
    let S = after (opening brands commits) h in
    let w = world z S in
    let s = settled-after z brands commits h right in
    let told = of_event z w s g e in
    let among : AllByRecursion (Contains (own z S e g)) (names z (one S e g).reply) =
    subst (λ (r : Reply). AllByRecursion (Contains (own z S e g)) (names z r)) (sym (reply-by z S e g is))
    (each-so _ (Contains (own z S e g)) (names z (act_of (decide (view_of z w) e) g).effect.reply)
    (λ o k. contained o (own z S e g) (subst (IsIn o) (sym (ap (λ v. objects z w ++ objects z v ++ granted z (act_of (decide (view z S) e) g).came) (left-by z S e g is) ∙ ap (λ v. objects z w ++ objects z (acts_world (session_number e) (act_of (decide (view_of z w) e) g) w) ++ granted z (act_of (decide v e) g).came) (view-world z S))) k)) told)
    in
    all-of (Contains (own z S e g)) (names z (one S e g).reply) among

-- what an entry of a history says is so
told-at : (permits : State → Event → Grant → Bool) (S : State) (h more : List Entry) (e : Entry) → is_history permits S (h ++ e ∷ more) ≡ true → is_told (after S h) e ≡ true
told-at permits S [] more e is =
    let parts = and_parts (is_told S e && permits S e.event e.grant) (is_history permits (after_entry S e) more) is in (and_parts (is_told S e) (permits S e.event e.grant) parts.0).0
told-at permits S (x ∷ h) more e is =
    let parts = and_parts (is_told S x && permits S x.event x.grant) (is_history permits (after_entry S x) (h ++ e ∷ more)) is in told-at permits (after_entry S x) h more e parts.1

pub entries-own : (z : Name) (permits : State → Event → Grant → Bool) (brands : List Tabled) (commits : List Commit) (h more : List Entry) (e : Entry) → IfSome (stored z commits) IsRight
    → is_history permits (opening brands commits) (h ++ e ∷ more) ≡ true → e.subject ≡ Zone z → AreAmong (names z e.reply) (own z (after (opening brands commits) h) e.event e.grant)
entries-own z permits brands commits h more e right is of =
    let S = after (opening brands commits) h in
    let told = and_parts (same_subject e.subject (subject S e.event)) (same_reply e.reply (one S e.event e.grant).reply) (told-at permits (opening brands commits) h more e is) in
    let same = (subject-Decides e.subject (subject S e.event)).0 told.0 in
    subst (λ (r : Reply). AreAmong (names z r) (own z S e.event e.grant)) (sym ((reply-Decides e.reply (one S e.event e.grant).reply).0 told.1))
    (names-own z brands commits h e.event e.grant right (sym same ∙ of))

-- what is stored, and the tables
pub record-right : (row : Record) → IsRecord row → IsRight row
record-right row is = record { state = is.state; config = is.config }

pub records-right : (z : Name) (brands : List Tabled) (commits : List Commit) (h : List Entry) → IfSome (stored z commits) IsRight → IfSome (stored z (after (opening brands commits) h).commits) IsRight
records-right z brands commits h right = (settled-after z brands commits h right).right.stored

pub tables-agree : (z : Name) (brands : List Tabled) (commits : List Commit) (h : List Entry) → IfSome (stored z commits) IsRight → Agrees (seen_of (world z (after (opening brands commits) h)))
tables-agree z brands commits h right = agrees (world z (after (opening brands commits) h)) (settled-after z brands commits h right)
