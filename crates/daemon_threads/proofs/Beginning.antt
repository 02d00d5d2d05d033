-- What sessions begin with, and how what threads leave is what sessions leave.
use Rattle.std.proofs.Common.{◌≡◌, ◌≢◌, ◌⊎◌, ◌<◌, ◌+◌, ◌^◌, ◌++◌, ◌∷◌, [], ℕ, zero, suc, List, Bool, Option, Some, None, true, false, ap, append_assoc, arith, inl, inr, length, map, nat_eq, refl, subst, sym, ◌∙◌}
use Rattle.std.specs.Prelude.{IfSome, bytes_eq, drop, is_some, slice_get, slice_index_or, if◌then◌else◌}
use Rattle.std.specs.List.{All}
use Rattle.std.specs.Map.{lookup}
use Rattle.std.proofs.lemmas.Bool.{false≢true, ne_eqb}
use Rattle.brand_hooks.specs.Brands.{Tabled}
use Rattle.commit_journal.specs.declared.records.Commit.{Commit}
use Rattle.session_records.specs.Places.{place_from, zone_at, world_of_zone}
use Rattle.session_records.specs.Records as records
use Rattle.session_runs.specs.Far.{Differ, scripts_of}
use Rattle.session_runs.specs.Runs.{IsReached}
use Rattle.session_runs.specs.declared.far.Script.{Script as Script_of}
use Rattle.session_runs.proofs.Histories.{commits-after}
use Rattle.zn_base.specs.Names.{Name}
use Rattle.zn_io.specs.Disk.{IsSound, Leaves, View}
use Rattle.zone_cases.specs.Code.Cells.{CellOf}
use Rattle.zone_cases.specs.State.{State}
use Rattle.zone_cases.specs.State.Worlds.{world}
use Rattle.zone_cases.specs.declared.cell.Cell.{Cell}
use Rattle.zone_cases.specs.declared.events.Entry.{Entry}
use Rattle.zone_disk.specs.Bank.{Account}
use Rattle.zone_machine.specs.Code.Openings.{StandsFor}
use Rattle.zone_machine.specs.Code.Partings.{HasNothing, StandApart}
use Rattle.zone_machine.specs.Code.Records.{IsReady}
use Rattle.zone_machine.specs.Machine.{opening}
use Rattle.zone_machine.specs.Machine.Changes.{changes}
use Rattle.zone_machine.specs.Machine.Histories.{after, after_entry}
use Rattle.zone_machine.specs.Machine.Images.{HoldsEither, NowHolds}
use Rattle.zone_machine.specs.Shown.{nothing_shown, shown, world_shown}
use Rattle.zone_machine.specs.Code.Shown_zones.{shown_in}
use Rattle.zone_machine.specs.declared.faults.StepFault.{StepFault}
use Rattle.zone_machine.specs.declared.faults.StepFault.TheVariants.{DiskFault, Memory}
use Rattle.zone_machine.specs.declared.machine.Machine.{Machine}
use Rattle.zone_machine.specs.declared.machine.parting.Parted.{Parted}
use Rattle.zone_machine.specs.declared.machine.shared.Shared.{Shared}
use Rattle.zone_pools.proofs.Owned_laws.{same_self, same_true}
use Rattle.zone_threads.specs.Ends.{AreAll, AreFree, IsBack, IsScript}
use Rattle.zone_threads.specs.Folds.{all_right, folded}
use Rattle.zone_threads.specs.Words as words
use Rattle.zone_threads.specs.declared.run.Script.{Script}
use Rattle.zone_threads.specs.declared.zone.Back.{Back}
use Rattle.daemon_threads.proofs.Dealt_cells.{if-differ, its-cell, shown-by, shown-or}
use Rattle.daemon_threads.proofs.Disks.{disk-begins, ready-holds}
use Rattle.daemon_threads.proofs.Gathered.{ArePlaced, backs-placed, cells-fit, cells-placed, others-nothing, unplaced-stays}
use Rattle.daemon_threads.proofs.Leaving.{is-some, nothing-is, script-lines}
use Rattle.daemon_threads.proofs.Places.{zone-got}
use Rattle.daemon_threads.proofs.Same_records.{partial, whole}
use Rattle.daemon_threads.specs.Begun.{IsBegun, ended_by, moved_script, script_lines}
use Rattle.daemon_threads.specs.Dealing.{IsDealt, all_differ, if_all_differ, names_of, place_cell}
use Rattle.daemon_threads.specs.Definitions.{CellIn, daemons, no_session, place_world, state_in, state_of}
use Rattle.daemon_threads.specs.Disks.{DiskOf}
use Rattle.daemon_threads.specs.Gathering.{StandTogether, back_cell, put_all}
use Rattle.daemon_threads.specs.Goods.{Goods}
use Rattle.daemon_threads.specs.Meets.{zone-behind}
use Rattle.daemon_threads.specs.Parts.{PartOf, Stands, commons}
use Rattle.daemon_threads.specs.Sessions.{HoldsSome, LeavesChanges, Lives, is_settled}
use Rattle.daemon_threads.specs.Worlds.{brands-one}
use Rattle.daemon_threads.specs.declared.cell.PlaceCell.{PlaceCell}
use Rattle.daemon_threads.specs.declared.cell.PlaceCell.TheVariants as cells
use Rattle.daemon_threads.specs.declared.dealing.Dealt.{Dealt}
use Rattle.daemon_threads.specs.declared.past.Past.{Past}

-- a history with its latest entry first
abbrev turned : List Entry → List Entry → List Entry
turned [] g = g
turned (e ∷ h) g = turned h (e ∷ g)

turned-after : (brands : List Tabled) (commits : List Commit) (h g : List Entry) → state_in brands commits (turned h g) ≡ after (state_in brands commits g) h
turned-after brands commits [] g = refl
turned-after brands commits (e ∷ h) g = turned-after brands commits h (e ∷ g)

after-brands : (S : State) (h : List Entry) → (after S h).brands ≡ S.brands
after-brands S [] = refl
after-brands S (e ∷ h) = after-brands (after_entry S e) h ∙ brands-one S e.event e.grant

-- some history leads to a state that is reached
abbrev pub past-of : (S : State) → IsReached S → Past
past-of S r = record { commits = r.commits; stored = S.commits; entries = turned r.past [] }

pub past-is : (S : State) (r : IsReached S) (brands : List Tabled) → S.brands ≡ brands → state_of brands (past-of S r) ≡ S
past-is S r brands same =
    let was : r.brands ≡ brands = sym (after-brands (opening r.brands r.commits) r.past) ∙ (ap (λ (T : State). T.brands) r.there ∙ same) in
    subst (λ bs. state_in bs r.commits (turned r.past []) ≡ S) was (turned-after r.brands r.commits r.past [] ∙ r.there)

-- what stands at an index
got-at : {A : Type 0} (xs : List A) (i : ℕ) (x : A) → slice_get xs i ≡ Some x → (i < length xs) × (slice_index_or xs i x ≡ x)
got-at [] i x is = absurd (cc)
got-at (y ∷ ys) zero x is = let same : y ≡ x = cc in (omega arith, same)
got-at (y ∷ ys) (suc i) x is = let rest = got-at ys i x is in let near = rest.0 in (omega (arith, near), rest.1)

names-got : (es : List (Name × Cell)) (i : ℕ) (e : Name × Cell) → slice_get es i ≡ Some e → slice_get (names_of es) i ≡ Some e.0
names-got [] i e is = absurd (cc)
names-got (x ∷ xs) zero e is = let same : x ≡ e = cc in ap (λ (k : Name × Cell). Some k.0) same
names-got (x ∷ xs) (suc i) e is = names-got xs i e is

cell-got : (es : List (Name × Cell)) (i : ℕ) (e : Name × Cell) → all_differ (names_of es) ≡ true → slice_get es i ≡ Some e → lookup (bytes_eq e.0) es ≡ Some e.1
cell-got es i e differ is =
    let at = got-at es i e is in
    subst (λ (k : Name × Cell). lookup (bytes_eq k.0) es ≡ Some k.1) at.1 (its-cell es i e differ at.0)

at-cells : (es : List (Name × Cell)) (i : ℕ) (x : PlaceCell) (P : PlaceCell → Type 0) → i < length (map place_cell es) → ((e : Name × Cell) → slice_get es i ≡ Some e → P (place_cell e)) → P (slice_index_or (map place_cell es) i x)
at-cells [] i x P near holds = absurd (omega (arith, near))
at-cells (e ∷ es) zero x P near holds = holds e refl
at-cells (e ∷ es) (suc i) x P near holds = at-cells es i x P (omega (arith, near)) holds

none-at-1 : (zones : List Name) → zone_at zones 1 ≡ None
none-at-1 zones = at_zone (zone_at zones 1) refl
  where
    at_zone : (o : Option Name) → zone_at zones 1 ≡ o → o ≡ None
    at_zone None is = refl
    at_zone (Some z) is = let behind = zone-behind 2 zones 1 z is in absurd (omega (arith, behind))

-- a zone that has no place has no cell
none-placed : (n : ℕ) (es : List (Name × Cell)) (z : Name) → 0 < n → place_from n (names_of es) z ≡ 0 → lookup (bytes_eq z) es ≡ None
none-placed n [] z some is = refl
none-placed n (e ∷ es) z some is = at_test (none-placed (n + 1) es z (omega (arith, some))) (bytes_eq e.0 z) refl is
  where
    flip : (b : Bool) → bytes_eq z e.0 ≡ b → bytes_eq e.0 z ≡ false → b ≡ false
    flip true t other = absurd (false≢true (sym other ∙ subst (λ (k : Name). bytes_eq e.0 k ≡ true) (sym (same_true z e.0 t)) (same_self e.0)))
    flip false t other = refl

    at_test : (place_from (n + 1) (names_of es) z ≡ 0 → lookup (bytes_eq z) es ≡ None) → (b : Bool) → bytes_eq e.0 z ≡ b → (if b then n else place_from (n + 1) (names_of es) z) ≡ 0 → lookup (bytes_eq z) (e ∷ es) ≡ None
    at_test go true t is = absurd (omega (arith, some, is))
    at_test go false t is = let away : bytes_eq z e.0 ≡ false = flip (bytes_eq z e.0) refl t in rw away (go is)

module _ {D F : Type 0} (S : State) (p : Parted D F) (d : Dealt) (dealt : IsDealt p.cells.entries d) (differ : all_differ (names_of p.cells.entries) ≡ true) (stands : StandApart S p) (brands : List Tabled) (same : S.brands ≡ brands) where
  abbrev es : List (Name × Cell)
  es = p.cells.entries

  zone-in : (i : ℕ) (e : Name × Cell) → slice_get es i ≡ Some e → CellIn brands (place_cell e) (place_world (names_of es) (suc i + 1) S)
  zone-in i e is =
      let next : suc i + 1 ≡ 2 + i = omega arith in
      let there : zone_at (names_of es) (suc i + 1) ≡ Some e.0 = ap (zone_at (names_of es)) next ∙ zone-got 2 (names_of es) i e.0 (names-got es i e is) in
      record {
        zone = there;
        brands_are = ap (λ o. (world_of_zone o S).brands) there ∙ same;
        cell = subst (λ o. CellOf e.1 (world_of_zone o S)) (sym there) (stands.cells e.0 e.1 (cell-got es i e differ is));
      }

  all-in : (i : ℕ) (x : PlaceCell) → i < length (cells.Global ∷ map place_cell es) → CellIn brands (slice_index_or (cells.Global ∷ map place_cell es) i x) (place_world (names_of es) (i + 1) S)
  all-in zero x near = none-at-1 (names_of es)
  all-in (suc i) x near = at-cells es i x (λ c. CellIn brands c (place_world (names_of es) (suc i + 1) S)) (omega (arith, near)) (zone-in i)

  shows : (z : Name) → shown S z ≡ shown_in d.shown z
  shows z = sym (dealt.shown z ∙ (shown-by es z differ ∙ sym (at_cell (lookup (bytes_eq z) es) refl)))
    where
      at_cell : (o : Option Cell) → lookup (bytes_eq z) es ≡ o → shown S z ≡ shown-or nothing_shown o
      at_cell None is = ap world_shown (stands.others z is)
      at_cell (Some c) is = ap world_shown (stands.cells z c is)

  pub begun-apart : (s : Past) → state_of brands s ≡ S → s.stored ≡ S.commits → IsBegun (names_of es) brands d p.shared p.bank s
  begun-apart s is stored = record {
    stored = stored ∙ ap (λ (T : State). T.commits) (sym is);
    cells = λ i x near.
        subst (λ (T : State). CellIn brands (slice_index_or d.cells.items i x) (place_world (names_of es) (i + 1) T)) (sym is)
        (subst (λ (l : List PlaceCell). CellIn brands (slice_index_or l i x) (place_world (names_of es) (i + 1) S)) (sym dealt.cells) (all-in i x (subst (λ (l : List PlaceCell). i < length l) dealt.cells near)));
    others = λ z none. subst (λ (T : State). HasNothing (world z T)) (sym is) (stands.others z (none-placed 2 es z (omega arith) none));
    part = subst (λ (T : State). PartOf (record { shared = p.shared; shown = d.shown; bank = p.bank }) (commons T)) (sym is) (record { state = S; is = refl; shared = stands.shared; shown = shows; bodies = stands.bodies });
  }

-- the state that entries leave
after-folded : {D : Type 0} (view : D → View) (v : View) (zones : List Name) (brands : List Tabled) (s : Past) (h : List Entry) → (let M = daemons view v zones brands in state_of brands (folded M.one s h) ≡ after (state_of brands s) h)
after-folded view v zones brands s [] = refl
after-folded view v zones brands s (e ∷ h) = after-folded view v zones brands (record s { entries = e ∷ s.entries }) h

stored-stays : {D : Type 0} (view : D → View) (v : View) (zones : List Name) (brands : List Tabled) (s : Past) (h : List Entry) → (let M = daemons view v zones brands in (folded M.one s h).stored ≡ s.stored)
stored-stays view v zones brands s [] = refl
stored-stays view v zones brands s (e ∷ h) = stored-stays view v zones brands (record s { entries = e ∷ s.entries }) h

-- what stands behind the same front is the same
same-behind : {A : Type 0} (xs ys zs : List A) → xs ++ ys ≡ xs ++ zs → ys ≡ zs
same-behind [] ys zs is = is
same-behind (x ∷ xs) ys zs is = same-behind xs ys zs (ap (λ l. drop 1 l) is)

-- what the disk has is what sessions leave of it
pub disk-leaves : (settled sound : Bool) (S : State) (h : List Entry) (v w : View) (before : List Commit) → before ≡ S.commits → (settled ≡ true → sound ≡ true) → DiskOf v before sound w (after S h).commits → LeavesChanges settled S h v w
disk-leaves settled sound S h v w before was so d =
    let grown : S.commits ++ d.more ≡ S.commits ++ changes S h = ap (λ l. l ++ d.more) (sym was) ∙ (sym d.grown ∙ commits-after S h) in
    let more : d.more ≡ changes S h = same-behind S.commits d.more (changes S h) grown in
    let now_is : (after S h).commits ≡ S.commits ++ changes S h = commits-after S h in
    let next_is : (after S h).commits ++ d.perhaps ≡ S.commits ++ (changes S h ++ d.perhaps) = ap (λ l. l ++ d.perhaps) now_is ∙ append_assoc S.commits (changes S h) d.perhaps in
    record {
      perhaps = d.perhaps;
      few = d.few;
      none = λ is. d.settled (so is);
      model = d.passes.model.0;
      any_moment = λ k. subst (λ (l : List Commit). Leaves v w (HoldsSome l (changes S h ++ d.perhaps))) was (subst (λ (l : List Commit). Leaves v w (HoldsSome before (l ++ d.perhaps))) more (d.any_moment k));
      now = λ k image is. subst (λ (R : List Commit). HoldsEither R (S.commits ++ (changes S h ++ d.perhaps)) image) now_is (subst (λ (R : List Commit). HoldsEither (after S h).commits R image) next_is (d.now k image is));
    }

-- the same by other names
pub lives-as : {D : Type 0} (view : D → View) (S : State) (lines : records.Scripts) (v : View) (o o' : Option StepFault) (h h' : List Entry) (d d' : D) → o ≡ o' → h ≡ h' → d ≡ d' → Lives o' S lines h' v (view d') → Lives o S lines h v (view d)
lives-as view S lines v o o' h h' d d' a b c = subst (λ (T : Type 0). T) (λ i. Lives (sym a i) S lines (sym b i) v (view (sym c i)))

-- nothing was done where memory ran out before a thread was started
pub lives-none : {D : Type 0} (view : D → View) (S : State) (scripts : records.Scripts) (v : View) (before : List Commit) (o : Option StepFault) (new : List Entry) (old disk : D) → o ≡ Some Memory → new ≡ [] → disk ≡ old → before ≡ S.commits → DiskOf v before true (view old) S.commits
    → Lives o S scripts new v (view disk)
lives-none view S scripts v before o new old disk is none same was has =
    lives-as view S scripts v o (Some Memory) new [] disk old is none same
    (record { part = nothing-is S scripts; whole = λ is. absurd (is-some Memory is); left = disk-leaves true true S [] v (view old) before was (λ is. is) has })

pub lives-unbegun : {D : Type 0} (view : D → View) (S : State) (scripts : records.Scripts) (o : Option StepFault) (new : List Entry) (old disk : D) → o ≡ Some Memory → new ≡ [] → disk ≡ old → IsSound (view old) → ((view old).Keeps → NowHolds (view old) S.commits)
    → Lives o S scripts new (view old) (view disk)
lives-unbegun view S scripts o new old disk is none same sound holds = lives-none view S scripts (view old) S.commits o new old disk is none same refl (disk-begins (view old) S.commits sound holds)

-- the machine stands for the state that it stood for
pub stands-none : {D F : Type 0} (S : State) (m n : Machine D F) (new : List Entry) → new ≡ [] → n ≡ m → StandsFor S m → StandsFor (after S new) n
stands-none S m n new none same stands = subst (λ (T : Type 0). T) (λ i. StandsFor (after S (sym none i)) (sym same i)) stands

-- the disk didn't fail
abbrev pub TellsFailure : Bool → Option StepFault → Type 0
TellsFailure sound o = (sound ≡ false → o ≡ Some DiskFault) × (o ≡ Some DiskFault → sound ≡ false)

pub memory-other : Some Memory ≡ Some DiskFault → ⊥
memory-other is = absurd (cc)

pub only-memory : (o : Option StepFault) → o ≡ Some Memory → IfSome o (λ f. (f ≡ Memory) ⊎ (f ≡ DiskFault))
only-memory o is = subst (λ (o : Option StepFault). IfSome o (λ f. (f ≡ Memory) ⊎ (f ≡ DiskFault))) (sym is) (inl refl)

pub none-failed : (sound : Bool) (o : Option StepFault) → o ≡ Some Memory → sound ≡ true → TellsFailure sound o
none-failed sound o is ok = ((λ failed. absurd (false≢true (sym failed ∙ ok))), (λ other. absurd (memory-other (sym is ∙ other))))

settled-sound : (sound is_ended : Bool) → is_settled (ended_by sound is_ended) ≡ true → sound ≡ true
settled-sound true is_ended is = refl
settled-sound false is_ended is = absurd (false≢true is)

none-ended : (sound is_ended : Bool) → ended_by sound is_ended ≡ None → is_ended ≡ false
none-ended true true is = absurd (is-some Memory is)
none-ended true false is = refl
none-ended false is_ended is = absurd (is-some DiskFault is)

not-some : {A : Type 0} (o : Option A) → is_some o ≡ false → o ≡ None
not-some None is = refl
not-some (Some a) is = absurd (false≢true (sym is))

pub ended-if : (sound is_ended : Bool) (o : Option StepFault) → o ≡ ended_by sound is_ended → IfSome o (λ f. (f ≡ Memory) ⊎ (f ≡ DiskFault))
ended-if sound is_ended o is = subst (λ (o : Option StepFault). IfSome o (λ f. (f ≡ Memory) ⊎ (f ≡ DiskFault))) (sym is) (at_both sound is_ended)
  where
    at_both : (a b : Bool) → IfSome (ended_by a b) (λ f. (f ≡ Memory) ⊎ (f ≡ DiskFault))
    at_both false b = inr refl
    at_both true true = inl refl
    at_both true false = tt

pub disk-unsound : (sound is_ended : Bool) → ended_by sound is_ended ≡ Some DiskFault → sound ≡ false
disk-unsound false is_ended is = refl
disk-unsound true true is = absurd (cc)
disk-unsound true false is = absurd (cc)

pub fails-by : (b sound is_ended : Bool) (o : Option StepFault) → o ≡ ended_by sound is_ended → b ≡ sound → TellsFailure b o
fails-by b sound is_ended o is same = ((λ failed. is ∙ ap (λ (k : Bool). ended_by k is_ended) (sym same ∙ failed)), (λ other. same ∙ disk-unsound sound is_ended (sym is ∙ other)))

-- what the disk has when sessions begin
pub disk-begun : {D : Type 0} (view : D → View) (zones : List Name) (brands : List Tabled) (d : Dealt) (shared : Shared) (bank : Account D) (s : Past) → IsBegun zones brands d shared bank s → IsSound (view bank.disk) → IsReady (view bank.disk) bank shared
    → DiskOf (view bank.disk) s.stored true (view bank.disk) (state_of brands s).commits
disk-begun view zones brands d shared bank s begun is_sound ready =
    let S = state_of brands s in
    let w = view bank.disk in
    subst (λ (R : List Commit). DiskOf w s.stored true w R) begun.stored (disk-begins w s.stored is_sound (λ k. subst (NowHolds w) (sym begun.stored) (ready-holds S bank shared w begun.part.bodies begun.part.shared ready k)))

module _ {D : Type 0} (view : D → View) (v : View) (zones : List Name) (brands : List Tabled) where
  -- what the zones share stands for the beginning
  pub stands-begun : (d : Dealt) (shared : Shared) (bank : Account D) (s : Past) → IsBegun zones brands d shared bank s → bank.sound ≡ true → DiskOf v s.stored true (view bank.disk) (state_of brands s).commits
      → Stands view v s.stored (record { shared = shared; shown = d.shown; bank = bank }) (commons (state_of brands s))
  stands-begun d shared bank s begun sound disk = record { part = λ is. begun.part; disk = subst (λ (b : Bool). DiskOf v s.stored b (view bank.disk) (state_of brands s).commits) (sym sound) disk }

  -- sessions that lived
  pub lives-listed : {F : Type 0} (lines : records.Scripts) → lines 0 ≡ [] → lines no_session ≡ [] → (s : Past) → s.stored ≡ (state_of brands s).commits → (h : List Entry) (m : Goods D) (o : Option F)
      → (let M = daemons view v zones brands in words.IsPartial M s lines h → (o ≡ None → words.IsRecord M s lines h) → M.shared_of m (M.common (folded M.one s h)) → Lives (ended_by m.bank.sound (is_some o)) (state_of brands s) lines h v (view m.bank.disk))
  lives-listed lines none no_other s stored h m o part all stands =
      let S = state_of brands s in
      let there : (folded (daemons view v zones brands).one s h).stored ≡ s.stored = stored-stays view v zones brands s h in
      let left : state_of brands (folded (daemons view v zones brands).one s h) ≡ after S h = after-folded view v zones brands s h in
      let disk : DiskOf v s.stored m.bank.sound (view m.bank.disk) (after S h).commits = subst (λ (T : State). DiskOf v s.stored m.bank.sound (view m.bank.disk) T.commits) left (subst (λ (R : List Commit). DiskOf v R m.bank.sound (view m.bank.disk) (state_of brands (folded (daemons view v zones brands).one s h)).commits) there stands.disk) in
      record {
        part = partial zones view v brands s lines none no_other h part;
        whole = λ is. whole zones view v brands s lines none no_other h (all (not-some o (none-ended m.bank.sound (is_some o) is)));
        left = disk-leaves (is_settled (ended_by m.bank.sound (is_some o))) m.bank.sound S h v (view m.bank.disk) s.stored stored (settled-sound m.bank.sound (is_some o)) disk;
      }

  -- and the cells that came back stand for the state after the entries, with what zones share
  pub after-entries : (d : Dealt) (shared : Shared) (bank : Account D) (s : Past) → IsBegun zones brands d shared bank s → (h : List Entry) (m : Goods D) (bs : List (Back PlaceCell)) → AreAll (length zones + 1) bs → AreFree bs → m.bank.sound ≡ true
      → (let M = daemons view v zones brands in all_right M.right M.one s h ≡ true → All (IsBack M s h) bs → M.shared_of m (M.common (folded M.one s h)) → StandTogether (after (state_of brands s) h) (put_all (map back_cell bs)) m.shared m.bank.records)
  after-entries d shared bank s begun h m bs are free sound legal backs stands =
      let M = daemons view v zones brands in
      let T = after (state_of brands s) h in
      let left : state_of brands (folded M.one s h) ≡ T = after-folded view v zones brands s h in
      let placed : ArePlaced zones brands T (map back_cell bs) = subst (λ (U : State). ArePlaced zones brands U (map back_cell bs)) left (backs-placed zones brands (state_of brands (folded M.one s h)) bs backs free are) in
      let part : PartOf m (commons T) = subst (λ (U : State). PartOf m (commons U)) left (stands.part sound) in
      record {
        cells_are = cells-fit zones brands T (map back_cell bs) placed;
        others = others-nothing zones brands T (map back_cell bs) placed (λ z none. subst HasNothing (sym (unplaced-stays view v zones brands s h z none legal)) (begun.others z none));
        shared_is = part.shared;
        bodies_are = part.bodies;
      }

  -- and so do cells that were not used, for the state before
  pub before-entries : (d : Dealt) (shared : Shared) (bank : Account D) (s : Past) → IsBegun zones brands d shared bank s → length d.cells.items ≡ length zones + 1 → StandTogether (state_of brands s) (put_all d.cells.items) shared bank.records
  before-entries d shared bank s begun count =
      let S = state_of brands s in
      let placed = cells-placed zones brands S d.cells.items begun.cells count in
      record {
        cells_are = cells-fit zones brands S d.cells.items placed;
        others = others-nothing zones brands S d.cells.items placed begun.others;
        shared_is = begun.part.shared;
        bodies_are = begun.part.bodies;
      }

-- the scripts that were moved are the same
pub moved-lines : (scripts : List Script_of) (n : ℕ) → scripts_of scripts n ≡ script_lines (map moved_script scripts) n
moved-lines [] n = refl
moved-lines (x ∷ xs) n = ap (λ ls. if nat_eq n x.session then x.lines.items else ls) (moved-lines xs n)

pub none-other : (xs : List (Script (List ℕ))) (n : ℕ) → All (λ (x : Script (List ℕ)). x.session ≢ n) xs → script_lines xs n ≡ []
none-other [] n away = refl
none-other (x ∷ xs) n away = rw (ne_eqb n x.session (λ same. away 0 x (omega arith) (sym same))) (none-other xs n (λ k d near. away (suc k) d (omega (arith, near))))

either-short : (b : Bool) (us vs : List (List ℕ)) → length us < 2 ^ 64 → length vs < 2 ^ 64 → length (if b then us else vs) < 2 ^ 64
either-short true us vs p q = p
either-short false us vs p q = q

pub are-short : (xs : List (Script (List ℕ))) (n : ℕ) → length (script_lines xs n) < 2 ^ 64
are-short [] n = omega arith
are-short (x ∷ xs) n = either-short (nat_eq n x.session) x.lines.items (script_lines xs n) (let ok = x.lines.ok in let small = x.lines.small in omega arith) (are-short xs n)

-- where the sessions of the scripts differ and are from 1 to 64
map-at : {A B : Type 0} (f : A → B) (xs : List A) (k : ℕ) (d : A) → slice_index_or (map f xs) k (f d) ≡ f (slice_index_or xs k d)
map-at f [] k d = refl
map-at f (x ∷ xs) zero d = refl
map-at f (x ∷ xs) (suc k) d = map-at f xs k d

pub map-length : {A B : Type 0} (f : A → B) (xs : List A) → length (map f xs) ≡ length xs
map-length f [] = refl
map-length f (x ∷ xs) = ap suc (map-length f xs)

pub are-moved : (scripts : List Script_of) (moved : List (Script (List ℕ))) → Differ scripts → All (λ (s : Script_of). (s.session ≢ 0) × (s.session < 65)) scripts → moved ≡ map moved_script scripts → All (IsScript (script_lines moved)) moved
are-moved scripts moved differ named is = subst (λ (l : List (Script (List ℕ))). All (IsScript (script_lines l)) l) (sym is) each
  where
    each : All (IsScript (script_lines (map moved_script scripts))) (map moved_script scripts)
    each k d near =
        let s : Script_of = record { session = d.session; lines = d.lines } in
        let it = slice_index_or scripts k s in
        let inside : k < length scripts = subst (λ n. k < n) (map-length moved_script scripts) near in
        let own = named k s inside in
        subst (IsScript (script_lines (map moved_script scripts))) (sym (map-at moved_script scripts k s))
        (own.0, own.1, sym (script-lines scripts differ k s inside) ∙ moved-lines scripts it.session)

pub no-lines : (xs : List (Script (List ℕ))) → All (IsScript (script_lines xs)) xs → (script_lines xs 0 ≡ []) × (script_lines xs no_session ≡ [])
no-lines xs are = (none-other xs 0 (λ k d near. (are k d near).0), none-other xs no_session (λ k d near same. too-many (slice_index_or xs k d).session (are k d near).1 same))
  where
    too-many : (n : ℕ) → n < 65 → n ≡ no_session → ⊥
    too-many n small is = absurd (omega (arith, small, is))

pub lives-moved : {D : Type 0} (view : D → View) (S : State) (scripts : List Script_of) (moved : List (Script (List ℕ))) (o : Option StepFault) (h : List Entry) (old old' new : D) → moved ≡ map moved_script scripts → old' ≡ old
    → Lives o S (script_lines moved) h (view old') (view new) → Lives o S (scripts_of scripts) h (view old) (view new)
lives-moved view S scripts moved o h old old' new is same =
    let lines : script_lines moved ≡ scripts_of scripts = λ i n. (ap (λ l. script_lines l n) is ∙ sym (moved-lines scripts n)) i in
    subst (λ (T : Type 0). T) (λ i. Lives o S (lines i) h (view (same i)) (view new))

-- what sessions begin with that a machine has which was taken apart
pub begun-from : {D F : Type 0} (S : State) (p : Parted D F) (d : Dealt) (brands : List Tabled) (r : IsReached S) → IsDealt p.cells.entries d → all_differ (names_of p.cells.entries) ≡ true → StandApart S p → S.brands ≡ brands
    → IsBegun (if_all_differ d.zones.items) brands d p.shared p.bank (past-of S r)
begun-from S p d brands r dealt differ stands same =
    let zones : names_of p.cells.entries ≡ if_all_differ d.zones.items = sym (ap if_all_differ dealt.zones ∙ if-differ (names_of p.cells.entries) differ) in
    subst (λ (zs : List Name). IsBegun zs brands d p.shared p.bank (past-of S r)) zones (begun-apart S p d dealt differ stands brands same (past-of S r) (past-is S r brands same) refl)

-- a place for the global zone and one for each zone
pub dealt-places : (es : List (Name × Cell)) (d : Dealt) → IsDealt es d → all_differ d.zones.items ≡ true → length d.cells.items ≡ length (if_all_differ d.zones.items) + 1
dealt-places es d dealt differ =
    let count : length d.cells.items ≡ suc (length (map place_cell es)) = ap length dealt.cells in
    let each = map-length place_cell es in
    let all : length (if_all_differ d.zones.items) ≡ length d.zones.items = ap length (if-differ d.zones.items differ) in
    let named : length d.zones.items ≡ length (names_of es) = ap length dealt.zones in
    let names = map-length (λ (e : Name × Cell). e.0) es in
    omega (arith, count, each, all, named, names)
