-- What an event leaves of a cell and of what the zones share, as threads see it.
use Rattle.std.proofs.Common.{◌≡◌, ◌&&◌, ◌++◌, ℕ, List, Bool, Some, None, true, false, ap, arith, nat_eq, refl, subst, sym, ◌∙◌}
use Rattle.std.specs.Prelude.{◌≢◌, bytes_eq, not, if◌then◌else◌}
use Rattle.std.proofs.lemmas.Bool.{and_from, eqb-true, false_from_ne_true, false≢true}
use Rattle.brand_hooks.specs.Brands.{Tabled}
use Rattle.brand_hooks.specs.declared.table.HookAnswer.{HookAnswer}
use Rattle.commit_journal.specs.declared.records.Commit.{Commit}
use Rattle.session_records.specs.Places.{AreApart, is_right_at, own_world_by, own_world_one, place_of, world_of_zone, zone_at}
use Rattle.zn_base.specs.Names.{Name}
use Rattle.zn_io.specs.Disk.{View}
use Rattle.zn_io.specs.Streams.{Rose}
use Rattle.zone_disk.specs.Bank.{Account}
use Rattle.zone_cases.specs.Code.Cells.{CellOf, IsHeardIn, cell_world, outside_of}
use Rattle.zone_cases.specs.State.{State, bodies_of}
use Rattle.zone_cases.specs.State.Decisions.{act_of}
use Rattle.zone_cases.specs.State.Worlds.{World, view as view_in, world}
use Rattle.zone_cases.specs.declared.cell.Cell.{Cell}
use Rattle.zone_cases.specs.declared.events.Entry.{Entry}
use Rattle.zone_cases.specs.declared.events.Event.{Event}
use Rattle.zone_cases.specs.declared.events.Subject.TheVariants.{Global, Zone}
use Rattle.zone_machine.proofs.Alone.{local-world}
use Rattle.zone_machine.proofs.Local_laws.{local-turn}
use Rattle.zone_machine.proofs.Own_worlds.{leaves}
use Rattle.zone_machine.proofs.Same_laws.{reply-Decides, subject-Decides}
use Rattle.zone_machine.proofs.Writing.{commits-global, commits-zone}
use Rattle.zone_machine.specs.Code.Cell_steps.{CellLeaves, IsAllowedCellStep}
use Rattle.zone_machine.specs.Code.Global_steps.{IsGlobalStep}
use Rattle.zone_machine.specs.Code.Local_turns.{IsAsItWas, IsLocalTurn}
use Rattle.zone_machine.specs.Code.Records.{BankLeft, GoesInCell, IsReady, KeepsBodiesInCell, Passes}
use Rattle.zone_machine.specs.Code.Rooms.{Alike}
use Rattle.zone_machine.specs.Code.Shown_zones.{shown_in}
use Rattle.zone_machine.specs.Machine.{decide, one, subject}
use Rattle.zone_machine.specs.Machine.Changes.{committed}
use Rattle.zone_machine.specs.Machine.Histories.{after_entry, concerns, entry_at, is_allowed, is_told, world_one}
use Rattle.zone_machine.specs.Machine.Images.{Goes, NowHolds}
use Rattle.zone_machine.specs.Machine.Pools.{allowed}
use Rattle.zone_machine.specs.Machine.Same.{same_reply, same_subject}
use Rattle.zone_machine.specs.Shown.{shown, shown_by, world_shown}
use Rattle.zone_machine.specs.declared.faults.StepFault.{StepFault}
use Rattle.zone_machine.specs.declared.faults.StepFault.TheVariants.{BadGrant, DiskFault, Memory, NoStore, WouldRecord}
use Rattle.zone_machine.specs.declared.machine.shown.ShownZones.{ShownZones}
use Rattle.zone_pools.proofs.Owned_laws.{same_self, same_true}
use Rattle.zone_pools.proofs.Same_laws.{grant-Decides}
use Rattle.zone_threads.specs.Machines.{Stepped, Unfinished}
use Rattle.zoneadmd_steps.specs.Code.Desks.{as_desk}
use Rattle.zoneadmd_steps.specs.Objects.{ids_of}
use Rattle.daemon_threads.specs.Meets.{brands-in, place-some}
use Rattle.daemon_threads.specs.Worlds.{brands-by, brands-one}
use Rattle.daemon_threads.specs.Definitions.{CellIn, PlaceWorld, daemons, place_world, session_of, state_of}
use Rattle.daemon_threads.proofs.Disks.{committed-few, disk-on, disk-torn, ready-holds}
use Rattle.daemon_threads.specs.Disks.{DiskOf}
use Rattle.daemon_threads.specs.Goods.{Goods}
use Rattle.daemon_threads.specs.Parts.{Answers, CellAnswers, IsUndone, Stands, commons}
use Rattle.daemon_threads.specs.Running.{IsDoneIn}
use Rattle.daemon_threads.specs.declared.cell.PlaceCell.TheVariants as cells
use Rattle.daemon_threads.specs.declared.past.Past.{Past}
use Rattle.zone_cases.specs.State.Declarations.{none_declared}

-- the table of what the zones show, once a zone's cell was noted
abbrev pub Notes : Name → Cell → ShownZones → ShownZones → Type 0
Notes z d t u = (y : Name) → shown_in u y ≡ (if bytes_eq z y then shown_by (as_desk d.desk) (ids_of d.kernel.id) else shown_in t y)

pub noted : (z : Name) (S T : State) (t u : ShownZones) (d : Cell) → Notes z d t u → CellOf d (world z T) → ((y : Name) → bytes_eq z y ≡ false → world y T ≡ world y S) → ((y : Name) → shown S y ≡ shown_in t y) → (y : Name) → shown T y ≡ shown_in u y
noted z S T t u d notes cell others shows y = at_zone (bytes_eq z y) refl (notes y)
  where
    at_zone : (b : Bool) → bytes_eq z y ≡ b → shown_in u y ≡ (if b then shown_by (as_desk d.desk) (ids_of d.kernel.id) else shown_in t y) → shown T y ≡ shown_in u y
    at_zone true is now = subst (λ x. shown T x ≡ shown_in u y) (same_true z y is) (ap world_shown cell ∙ sym now)
    at_zone false is now = ap world_shown (others y is) ∙ (shows y ∙ sym now)

-- an event of z leaves the worlds of the others
other-worlds : (z : Name) (S : State) (e : Event) (y : Name) → subject S e ≡ Zone z → bytes_eq z y ≡ false → world y (one S e (allowed S e)).state ≡ world y S
other-worlds z S e y of other =
    leaves y S e (allowed S e) (ap (concerns y) of ∙ false_from_ne_true (bytes_eq y z) (λ same. false≢true (sym other ∙ subst (λ x. bytes_eq z x ≡ true) (sym (same_true y z same)) (same_self z))))

module _ {D : Type 0} (view : D → View) (v : View) (before : List Commit) where
  -- what the disk has after an event of z
  disk-after : (z : Name) (S : State) (e : Event) (m n : Goods D) → subject S e ≡ Zone z → m.bank.sound ≡ true → n.bank.sound ≡ true → DiskOf v before m.bank.sound (view m.bank.disk) S.commits
      → (let T = (one S e (allowed S e)).state in Goes S.commits T.commits (view m.bank.disk) (view n.bank.disk) → Passes (view m.bank.disk) (view n.bank.disk) → ((view n.bank.disk).Keeps → NowHolds (view n.bank.disk) T.commits) → DiskOf v before n.bank.sound (view n.bank.disk) T.commits)
  disk-after z S e m n of was sound disk goes passes holds =
      let new : List Commit = committed z (act_of (decide (view_in z S) e) (allowed S e)).came in
      let more : (one S e (allowed S e)).state.commits ≡ S.commits ++ new = commits-zone S e (allowed S e) z of in
      let w = view m.bank.disk in
      let u = view n.bank.disk in
      subst (λ b. DiskOf v before b u (one S e (allowed S e)).state.commits) (sym sound)
      (subst (DiskOf v before true u) (sym more)
      (disk-on v before w S.commits (subst (λ b. DiskOf v before b w S.commits) was disk) u new (subst (λ l. Goes S.commits l w u) more goes) passes (subst (λ l. u.Keeps → NowHolds u l) more holds)))

  -- what it has where it failed in one
  disk-failed : (z : Name) (S : State) (e : Event) (m n : Goods D) → subject S e ≡ Zone z → m.bank.sound ≡ true → n.bank.sound ≡ false → DiskOf v before m.bank.sound (view m.bank.disk) S.commits
      → Goes S.commits (one S e (allowed S e)).state.commits (view m.bank.disk) (view n.bank.disk) → Passes (view m.bank.disk) (view n.bank.disk) → Rose (view m.bank.disk).faults (view n.bank.disk).faults → DiskOf v before n.bank.sound (view n.bank.disk) S.commits
  disk-failed z S e m n of was fails disk goes passes rose =
      let came = (act_of (decide (view_in z S) e) (allowed S e)).came in
      let new : List Commit = committed z came in
      let more : (one S e (allowed S e)).state.commits ≡ S.commits ++ new = commits-zone S e (allowed S e) z of in
      let w = view m.bank.disk in
      let u = view n.bank.disk in
      subst (λ b. DiskOf v before b u S.commits) (sym fails)
      (disk-torn v before w S.commits (subst (λ b. DiskOf v before b w S.commits) was disk) u new (subst (λ l. Goes S.commits l w u) more goes) passes (committed-few z came) rose)

  -- an event of z on its cell and what the zones share
  pub cell-answers : (z : Name) (S : State) (e : Event) (entry : Entry) (c d : Cell) (m n : Goods D) → IsAllowedCellStep z c m.shared e entry d n.shared
      → KeepsBodiesInCell z None c m.shared e m.bank.records n.bank.records → GoesInCell z None c m.shared e m.bank.records (view m.bank.disk) (view n.bank.disk) → Passes (view m.bank.disk) (view n.bank.disk) → IsReady (view n.bank.disk) n.bank n.shared
      → Notes z d m.shown n.shown → m.bank.sound ≡ true → CellOf c (world z S) → Stands view v before m (commons S) → subject S e ≡ Zone z → CellAnswers view v before z S e entry d n
  cell-answers z S e entry c d m n step bodies goes passes ready notes sound cell stands of =
      let part = stands.part sound in
      let answered = step S cell part.shared of in
      let T : State = (one S e (allowed S e)).state in
      let left : T ≡ after_entry S entry = sym (ap (after_entry S) answered.told) in
      let has : bodies_of T.commits ≡ n.bank.records = bodies S cell part.shared of part.bodies in
      let after : Stands view v before n (commons T) = record {
        part = λ is. record { state = T; is = refl; shared = answered.shared; shown = noted z S T m.shown n.shown d notes answered.cell (λ y other. other-worlds z S e y of other) part.shown; bodies = has };
        disk = disk-after z S e m n of sound ready.sound stands.disk (goes S cell part.shared of part.bodies) passes (λ keeps. ready-holds T n.bank n.shared (view n.bank.disk) has answered.shared ready keeps);
      } in
      record {
        answers = record { told = answered.told; stands = subst (λ U. Stands view v before n (commons U)) left after };
        cell = subst (λ U. CellOf d (world z U)) left answered.cell;
      }

  -- an event of the global zone on what the zones share
  pub global-answers : (S : State) (e : Event) (entry : Entry) (m n : Goods D) → IsGlobalStep m.shared m.shown e entry n.shared → n.shown ≡ m.shown → n.bank ≡ m.bank → m.bank.sound ≡ true → Stands view v before m (commons S) → subject S e ≡ Global → Answers view v before S e entry n
  global-answers S e entry m n step shown bank sound stands of =
      let part = stands.part sound in
      let answered = step S part.shared part.shown of in
      let T : State = (one S e (allowed S e)).state in
      let left : T ≡ after_entry S entry = sym (ap (after_entry S) answered.told) in
      let same : S.commits ≡ (after_entry S entry).commits = sym (commits-global S e (allowed S e) of) ∙ ap (λ (U : State). U.commits) left in
      record {
        told = answered.told;
        stands = record {
          part = λ is. record {
            state = after_entry S entry;
            is = refl;
            shared = answered.shared;
            shown = λ z. answered.shown z ∙ ap (λ t. shown_in t z) (sym shown);
            bodies = ap bodies_of (sym same) ∙ (part.bodies ∙ ap (λ b. b.records) (sym bank));
          };
          disk = subst (λ (b : Account D). DiskOf v before b.sound (view b.disk) (after_entry S entry).commits) (sym bank) (subst (DiskOf v before m.bank.sound (view m.bank.disk)) same stands.disk);
        };
      }

module _ {D : Type 0} (view : D → View) (v : View) where
  -- an event of z in which memory ran out
  undone-memory : (z : Name) (e : Event) (c d : Cell) (m n : Goods D) → Alike c m.shared d n.shared → n.bank ≡ m.bank → ((y : Name) → shown_in n.shown y ≡ shown_in m.shown y) → IsUndone view v z e c m d n
  undone-memory z e c d m n alike bank shows = record {
    cell = λ sound x cell. cell ∙ sym (alike.world (outside_of x));
    stands = λ before S cell of stands. record {
      part = λ sound. let part = stands.part (ap (λ b. b.sound) (sym bank) ∙ sound) in
          record { state = part.state; is = part.is; shared = part.shared ∙ sym alike.common; shown = λ y. part.shown y ∙ sym (shows y); bodies = part.bodies ∙ ap (λ b. b.records) (sym bank) };
      disk = subst (λ (b : Account D). DiskOf v before b.sound (view b.disk) S.commits) (sym bank) stands.disk;
    };
  }

  -- one that wasn't done
  pub undone : (z : Name) (e : Event) (fault : StepFault) (c d : Cell) (m n : Goods D) → CellLeaves fault z None c m.shared e d n.shared → BankLeft true fault m.bank n.bank (view m.bank.disk) (view n.bank.disk) n.shared
      → GoesInCell z None c m.shared e m.bank.records (view m.bank.disk) (view n.bank.disk) → Passes (view m.bank.disk) (view n.bank.disk) → ((y : Name) → shown_in n.shown y ≡ shown_in m.shown y) → m.bank.sound ≡ true → IsUndone view v z e c m d n
  undone z e Memory c d m n leaves left goes passes shows was = undone-memory z e c d m n leaves left.0 shows
  undone z e BadGrant c d m n leaves left goes passes shows was = absurd leaves
  undone z e WouldRecord c d m n leaves left goes passes shows was = absurd left
  undone z e DiskFault c d m n leaves left goes passes shows was = record {
    cell = λ sound. absurd (false≢true (sym left.1 ∙ sound));
    stands = λ before S cell of stands. let part = stands.part was in record {
      part = λ sound. absurd (false≢true (sym left.1 ∙ sound));
      disk = disk-failed view v before z S e m n of was left.1 stands.disk (goes S cell part.shared of part.bodies) passes left.0;
    };
  }
  undone z e (NoStore fault) c d m n leaves left goes passes shows was = absurd left

-- the entry that the definitions give is right
right-entry : (zones : List Name) (S : State) (e : Event) → place_of zones (subject S e) ≢ 0 → is_right_at zones S (entry_at S e (allowed S e)) ≡ true
right-entry zones S e placed =
    let g = allowed S e in
    and_from (is_told S (entry_at S e g) && is_allowed S e g) (not (nat_eq (place_of zones (subject S e)) 0))
    (and_from (is_told S (entry_at S e g)) (is_allowed S e g)
    (and_from (same_subject (subject S e) (subject S e)) (same_reply (one S e g).reply (one S e g).reply) ((subject-Decides (subject S e) (subject S e)).1 refl) ((reply-Decides (one S e g).reply (one S e g).reply).1 refl))
    ((grant-Decides g g).1 refl))
    (ap not (false_from_ne_true (nat_eq (place_of zones (subject S e)) 0) (λ none. placed (eqb-true (place_of zones (subject S e)) 0 none))))

one-some : (n : ℕ) → n ≡ 1 → n ≡ 0 → ⊥
one-some n is none = absurd (omega (arith, is, none))

module _ (zones : List Name) (apart : AreApart zones) (brands : List Tabled) (p : ℕ) (s : Past) where
  abbrev S : State
  S = state_of brands s

  -- a step of a zone is what threads ask for
  pub zone-stepped : {D : Type 0} (view : D → View) (v : View) (z : Name) (e : Event) (entry : Entry) (d : Cell) (n : Goods D) → zone_at zones p ≡ Some z → subject S e ≡ Zone z → CellAnswers view v s.stored z S e entry d n → n.bank.sound ≡ true
      → Stepped (daemons view v zones brands) p (cells.Zone z d) n entry s
  zone-stepped view v z e entry d n is of answered sound =
      let T : State = after_entry S entry in
      let placed : place_of zones (subject S e) ≢ 0 = λ none. place-some zones p z is (sym (apart p z is) ∙ (ap (place_of zones) (sym of) ∙ none)) in
      record {
        is_right = subst (λ x. is_right_at zones S x ≡ true) (sym answered.answers.told) (right-entry zones S e placed);
        cell = record {
          zone = is;
          brands_are = ap (λ o. (world_of_zone o T).brands) is ∙ (brands-one S entry.event entry.grant ∙ brands-in brands s.commits s.entries);
          cell = subst (λ o. CellOf d (world_of_zone o T)) (sym is) answered.cell;
        };
        shared = answered.answers.stands;
        sound = sound;
      }

  -- and one of the global zone
  pub global-stepped : {D : Type 0} (view : D → View) (v : View) (e : Event) (entry : Entry) (n : Goods D) → zone_at zones p ≡ None → subject S e ≡ Global → Answers view v s.stored S e entry n → n.bank.sound ≡ true
      → Stepped (daemons view v zones brands) p cells.Global n entry s
  global-stepped view v e entry n is of answered sound =
      let placed : place_of zones (subject S e) ≢ 0 = one-some (place_of zones (subject S e)) (ap (place_of zones) of) in
      record {
        is_right = subst (λ x. is_right_at zones S x ≡ true) (sym answered.told) (right-entry zones S e placed);
        cell = is;
        shared = answered.stands;
        sound = sound;
      }

  -- a cell in its place has its zone's world
  pub cell-there : (z : Name) (c : Cell) → CellIn brands (cells.Zone z c) (place_world zones p S) → CellOf c (world z S)
  cell-there z c has = subst (λ o. CellOf c (world_of_zone o S)) has.zone has.cell

-- a local turn on a cell is one in every world that the cell may have
pub done-in : (zones : List Name) (apart : AreApart zones) (p : ℕ) (z : Name) (brands : List Tabled) (c : Cell) (answer : HookAnswer) (e : Entry) (d : Cell) → zone_at zones p ≡ Some z → IsHeardIn brands c answer → IsLocalTurn z c answer e d
    → (w : World) → CellOf c w → w.brands ≡ brands → IsDoneIn zones p z e d w
done-in zones apart p z brands c answer e d at heard turn w cell same =
    let done = local-world z c answer e d turn w cell (subst (λ b. IsHeardIn b c answer) (sym same) heard) in
    let own : own_world_one w e ≡ world_one z w e = ap (λ s. own_world_by s w e) (local-turn z w e done.0).1.subject in
    record {
      place = apart p z at;
      local = done.0;
      brands = ap (λ (v : World). v.brands) own ∙ brands-by e.subject z w e.event e.grant;
      cell = subst (CellOf d) (sym own) done.1;
    }

-- a cell has some world that has these brands
some-world : List Tabled → Cell → World
some-world brands c = cell_world (record { stored = None; declared = none_declared; brands = brands }) c

has-some : (brands : List Tabled) (c : Cell) → CellOf c (some-world brands c)
unfolding some-world
has-some brands c = refl

its-brands : (brands : List Tabled) (c : Cell) → (some-world brands c).brands ≡ brands
unfolding some-world
its-brands brands c = refl

-- so a local turn is a turn of its place
pub turn-of : (zones : List Name) (apart : AreApart zones) (p : ℕ) (z : Name) (brands : List Tabled) (c : Cell) (answer : HookAnswer) (e : Entry) (d : Cell) → zone_at zones p ≡ Some z → IsHeardIn brands c answer → IsLocalTurn z c answer e d
    → (place_of zones e.subject ≡ p) × (session_of e.event ≡ 0)
turn-of zones apart p z brands c answer e d at heard turn =
    let w = some-world brands c in
    let done = done-in zones apart p z brands c answer e d at heard turn w (has-some brands c) (its-brands brands c) in
    let found = local-turn z w e done.local in (ap (place_of zones) found.1.subject ∙ done.place, ap session_of found.1.event)

-- a cell that is as it was has the worlds that it had
pub still-in : (brands : List Tabled) (z : Name) (c d : Cell) → IsAsItWas c d → (w : PlaceWorld) → CellIn brands (cells.Zone z c) w → CellIn brands (cells.Zone z d) w
still-in brands z c d same w has = record { zone = has.zone; brands_are = has.brands_are; cell = has.cell ∙ sym (same (outside_of w.world)) }

-- nor has a cell of a place others where an event wasn't done
pub kept-in : {D : Type 0} (view : D → View) (v : View) (brands : List Tabled) (z : Name) (e : Event) (c : Cell) (m : Goods D) (d : Cell) (n : Goods D) → IsUndone view v z e c m d n
    → n.bank.sound ≡ true → (w : PlaceWorld) → CellIn brands (cells.Zone z c) w → CellIn brands (cells.Zone z d) w
kept-in view v brands z e c m d n undone sound w has = record { zone = has.zone; brands_are = has.brands_are; cell = undone.cell sound w.world has.cell }

-- a turn that wasn't done
pub unfinished : {D : Type 0} (view : D → View) (v : View) (zones : List Name) (apart : AreApart zones) (brands : List Tabled) (p : ℕ) (z : Name) (e : Event) (c : Cell) (m : Goods D) (d : Cell) (n : Goods D) → ((S : State) → subject S e ≡ Zone z)
    → IsUndone view v z e c m d n → Unfinished (daemons view v zones brands) p (cells.Zone z c) m (cells.Zone z d) n
unfinished view v zones apart brands p z e c m d n of undone = record {
  cell = kept-in view v brands z e c m d n undone;
  shared = λ s has stands. let S = state_of brands s in undone.stands s.stored S (cell-there zones apart brands p s z c has) (of S) stands;
}
