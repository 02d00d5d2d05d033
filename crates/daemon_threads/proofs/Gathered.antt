-- Cells that lay in places, back together: each zone has its own, and a zone without a place has nothing still.
use Rattle.std.proofs.Common.{◌≡◌, ◌<◌, ◌≤◌, ◌+◌, ◌-◌, ◌∷◌, [], ℕ, zero, suc, List, Bool, Option, Some, None, true, false, ap, arith, length, map, nat_eq, refl, subst, sym, ◌∙◌}
use Rattle.std.specs.Prelude.{◌≢◌, ◌&&◌, bytes_eq, not, slice_index_or, if◌then◌else◌}
use Rattle.std.specs.List.{All, AllByRecursion, IsDistinct, list_any}
use Rattle.std.proofs.lemmas.Bool.{and_parts, eq-eqb, eqb-true, false≢true, false_from_ne_true, ne_eqb, or_parts}
use Rattle.std.proofs.lemmas.Map.Steps.{length-le_from_distinct_below}
use Rattle.brand_hooks.specs.Brands.{Tabled}
use Rattle.session_records.specs.Places.{is_right_at, place_from, place_of, world_of_zone, zone_at, zone_from}
use Rattle.zn_base.specs.Names.{Name}
use Rattle.zn_io.specs.Disk.{View}
use Rattle.zone_cases.specs.Code.Cells.{CellOf}
use Rattle.zone_cases.specs.State.{State}
use Rattle.zone_cases.specs.State.Worlds.{world}
use Rattle.zone_cases.specs.declared.cell.Cell.{Cell}
use Rattle.zone_cases.specs.declared.events.Entry.{Entry}
use Rattle.zone_cases.specs.declared.events.Subject.{Subject}
use Rattle.zone_cases.specs.declared.events.Subject.TheVariants.{Global, Whole, Zone}
use Rattle.zone_machine.proofs.Alone.{moves-world}
use Rattle.zone_machine.proofs.Own_worlds.{world_by-other}
use Rattle.zone_machine.specs.Code.Partings.{HasNothing, StandApart, cell_apart}
use Rattle.zone_machine.specs.Code.Cells.{SharedOf}
use Rattle.zone_machine.specs.Machine.Common.{common}
use Rattle.zone_machine.specs.declared.machine.parting.Parted.{Parted}
use Rattle.zone_machine.specs.declared.machine.shared.Shared.{Shared}
use Rattle.zone_machine.specs.Machine.Histories.{after, after_entry, concerns, is_allowed, is_told}
use Rattle.zone_pools.proofs.Owned_laws.{same_self, same_true}
use Rattle.zone_threads.specs.Ends.{AreAll, AreFree}
use Rattle.zone_threads.specs.Folds.{all_right, folded}
use Rattle.zone_threads.specs.declared.zone.Back.{Back}
use Rattle.daemon_threads.specs.Definitions.{CellIn, daemons, place_world, state_of}
use Rattle.daemon_threads.specs.Gathering.{StandTogether, back_cell, put_all, put_one}
use Rattle.daemon_threads.specs.Meets.{zone-behind}
use Rattle.daemon_threads.specs.declared.cell.PlaceCell.{PlaceCell}
use Rattle.daemon_threads.specs.declared.cell.PlaceCell.TheVariants as cells
use Rattle.daemon_threads.specs.declared.past.Past.{Past}

-- no number of a list that hasn't it is it
none-is : (p : ℕ) (ps : List ℕ) → list_any (nat_eq p) ps ≡ false → AllByRecursion (λ (q : ℕ). nat_eq p q ≡ false) ps
none-is p [] away = tt
none-is p (q ∷ qs) away = let parts = or_parts (nat_eq p q) (list_any (nat_eq p) qs) away in (parts.0, none-is p qs parts.1)

-- as many as there are places, none twice: so each place is there
module _ {C : Type 0} where
  abbrev places : List (Back C) → List ℕ
  places bs = map (λ (b : Back C). b.place) bs

  places-length : (bs : List (Back C)) → length (places bs) ≡ length bs
  places-length [] = refl
  places-length (b ∷ bs) = ap suc (places-length bs)

  head-differs : (p : ℕ) (bs : List (Back C)) → ((j : ℕ) (d : Back C) → j < length bs → p ≢ (slice_index_or bs j d).place) → AllByRecursion (λ (q : ℕ). nat_eq p q ≡ false) (places bs)
  head-differs p [] differ = tt
  head-differs p (b ∷ bs) differ = (ne_eqb p b.place (differ 0 b (omega arith)), head-differs p bs (λ j d near. differ (suc j) d (omega (arith, near))))

  places-differ : (bs : List (Back C)) → ((i j : ℕ) (d : Back C) → i < j → j < length bs → (slice_index_or bs i d).place ≢ (slice_index_or bs j d).place) → IsDistinct nat_eq (places bs)
  unfolding IsDistinct
  places-differ [] differ = tt
  places-differ (b ∷ bs) differ = (
    head-differs b.place bs (λ j d near. differ 0 (suc j) d (omega arith) (omega (arith, near))),
    places-differ bs (λ i j d before near. differ (suc i) (suc j) d (omega (arith, before)) (omega (arith, near))),
  )

  found : (p : ℕ) (bs : List (Back C)) → list_any (nat_eq p) (places bs) ≡ true → (k : ℕ) × (k < length bs) × ((d : Back C) → (slice_index_or bs k d).place ≡ p)
  found p [] is = absurd (false≢true is)
  found p (b ∷ bs) is = at_test (found p bs) (nat_eq p b.place) refl is
    where
      at_test : (list_any (nat_eq p) (places bs) ≡ true → (k : ℕ) × (k < length bs) × ((d : Back C) → (slice_index_or bs k d).place ≡ p)) → (t : Bool) → nat_eq p b.place ≡ t → list_any (nat_eq p) (places (b ∷ bs)) ≡ true
          → (k : ℕ) × (k < length (b ∷ bs)) × ((d : Back C) → (slice_index_or (b ∷ bs) k d).place ≡ p)
      at_test go true t is = (0, omega arith, λ d. sym (eqb-true p b.place t))
      at_test go false t is = let there : list_any (nat_eq p) (places bs) ≡ true = simp t at is in let rest = go there in let near = rest.1 in (suc rest.0, omega (arith, near), rest.2)

  among : (n : ℕ) (bs : List (Back C)) → AreAll n bs → (p : ℕ) → 0 < p → p ≤ n → list_any (nat_eq p) (places bs) ≡ true
  unfolding IsDistinct
  among n bs are p some within = at_test (list_any (nat_eq p) (places bs)) refl
    where
      inside : (q : ℕ) → list_any (nat_eq q) (places bs) ≡ true → (0 < q) × (q ≤ n)
      inside q is = let it = found q bs is in at_index bs it.0 it.1 it.2
        where
          at_index : (xs : List (Back C)) → (k : ℕ) → k < length bs → ((d : Back C) → (slice_index_or bs k d).place ≡ q) → (0 < q) × (q ≤ n)
          at_index xs k near same = subst (λ m. (0 < m) × (m ≤ n)) (same (first bs near)) (are.within k (first bs near) near)
            where
              first : (ys : List (Back C)) → k < length ys → Back C
              first [] near = absurd (omega (arith, near))
              first (y ∷ ys) near = y

      below : (q : ℕ) → list_any (nat_eq q) (0 ∷ p ∷ places bs) ≡ true → q < n + 1
      below q is = at_zero (nat_eq q 0) refl is
        where
          at_place : (t : Bool) → nat_eq q p ≡ t → list_any (nat_eq q) (p ∷ places bs) ≡ true → q < n + 1
          at_place true t is = let same = eqb-true q p t in omega (arith, same, within)
          at_place false t is = let there : list_any (nat_eq q) (places bs) ≡ true = simp t at is in let it = inside q there in omega (arith, it)

          at_zero : (t : Bool) → nat_eq q 0 ≡ t → list_any (nat_eq q) (0 ∷ p ∷ places bs) ≡ true → q < n + 1
          at_zero true t is = let same = eqb-true q 0 t in omega (arith, same)
          at_zero false t is = let there : list_any (nat_eq q) (p ∷ places bs) ≡ true = simp t at is in at_place (nat_eq q p) refl there

      zero-away : list_any (nat_eq 0) (places bs) ≡ false
      zero-away = false_from_ne_true (list_any (nat_eq 0) (places bs)) (λ is. let it = inside 0 is in absurd (omega (arith, it)))

      at_test : (t : Bool) → list_any (nat_eq p) (places bs) ≡ t → t ≡ true
      at_test true is = refl
      at_test false is =
          let differ : IsDistinct nat_eq (0 ∷ p ∷ places bs) = ((ne_eqb 0 p (λ same. absurd (omega (arith, same, some))), none-is 0 (places bs) zero-away), (none-is p (places bs) is, places-differ bs are.differ)) in
          let most = length-le_from_distinct_below (0 ∷ p ∷ places bs) (n + 1) differ below in
          let count = are.count in
          let same = places-length bs in
          absurd (omega (arith, most, count, same))

  pub each-there : (n : ℕ) (bs : List (Back C)) → AreAll n bs → (p : ℕ) → 0 < p → p ≤ n → (k : ℕ) × (k < length bs) × ((d : Back C) → (slice_index_or bs k d).place ≡ p)
  each-there n bs are p some within = found p bs (among n bs are p some within)

-- what zones have by what lay in places
module _ (P : Name → Cell → Type 0) where
  abbrev Fits : PlaceCell → Type 0
  Fits cells.Global = Unit {0}
  Fits (cells.Zone z c) = P z c

  one-fits : (f : Name → Option Cell) (x : PlaceCell) → ((z : Name) (c : Cell) → f z ≡ Some c → P z c) → Fits x → (z : Name) (c : Cell) → put_one f x z ≡ Some c → P z c
  one-fits f cells.Global start fit z c is = start z c is
  one-fits f (cells.Zone y k) start fit z c is = at_test (bytes_eq y z) refl is
    where
      at_test : (b : Bool) → bytes_eq y z ≡ b → (if b then Some k else f z) ≡ Some c → P z c
      at_test true t is = let same : k ≡ c = cc in subst (λ (n : Name). P n c) (same_true y z t) (subst (P y) same fit)
      at_test false t is = start z c is

  put-fits : (f : Name → Option Cell) (cs : List PlaceCell) → ((z : Name) (c : Cell) → f z ≡ Some c → P z c) → ((k : ℕ) (d : PlaceCell) → k < length cs → Fits (slice_index_or cs k d)) → (z : Name) (c : Cell) → folded put_one f cs z ≡ Some c → P z c
  put-fits f [] start each z c is = start z c is
  put-fits f (x ∷ xs) start each z c is =
      put-fits (put_one f x) xs (one-fits f x start (each 0 x (omega arith))) (λ k d near. each (suc k) d (omega (arith, near))) z c is

-- what lay in a place isn't a zone's
abbrev IsOther : Name → PlaceCell → Type 0
IsOther z cells.Global = Unit {0}
IsOther z (cells.Zone y c) = bytes_eq y z ≡ false

one-left : (f : Name → Option Cell) (x : PlaceCell) (z : Name) → put_one f x z ≡ None → (f z ≡ None) × IsOther z x
one-left f cells.Global z is = (is, tt)
one-left f (cells.Zone y c) z is = at_test (bytes_eq y z) refl is
  where
    at_test : (b : Bool) → bytes_eq y z ≡ b → (if b then Some c else f z) ≡ None → (f z ≡ None) × (bytes_eq y z ≡ false)
    at_test true t is = absurd (cc)
    at_test false t is = (is, t)

put-left : (f : Name → Option Cell) (cs : List PlaceCell) (z : Name) → folded put_one f cs z ≡ None → f z ≡ None
put-left f [] z is = is
put-left f (x ∷ xs) z is = (one-left f x z (put-left (put_one f x) xs z is)).0

put-other : (f : Name → Option Cell) (cs : List PlaceCell) (z : Name) → folded put_one f cs z ≡ None → (k : ℕ) (d : PlaceCell) → k < length cs → IsOther z (slice_index_or cs k d)
put-other f [] z is k d near = absurd (omega (arith, near))
put-other f (x ∷ xs) z is zero d near = (one-left f x z (put-left (put_one f x) xs z is)).1
put-other f (x ∷ xs) z is (suc k) d near = put-other (put_one f x) xs z is k d (omega (arith, near))

-- a zone that has a place is the one of that place
zone-placed : (n : ℕ) (zones : List Name) (z : Name) → place_from n zones z ≢ 0 → (zone_from n zones (place_from n zones z) ≡ Some z) × (place_from n zones z < n + length zones)
zone-placed n [] z placed = absurd (placed refl)
zone-placed n (y ∷ ys) z placed = at_test (zone-placed (n + 1) ys z) (bytes_eq y z) refl placed
  where
    at_test : (place_from (n + 1) ys z ≢ 0 → (zone_from (n + 1) ys (place_from (n + 1) ys z) ≡ Some z) × (place_from (n + 1) ys z < (n + 1) + length ys))
        → (b : Bool) → bytes_eq y z ≡ b → (if b then n else place_from (n + 1) ys z) ≢ 0
        → (zone_from n (y ∷ ys) (if b then n else place_from (n + 1) ys z) ≡ Some z) × ((if b then n else place_from (n + 1) ys z) < n + length (y ∷ ys))
    at_test go true t placed = (rw (eq-eqb n n refl) (ap Some (same_true y z t)), omega arith)
    at_test go false t placed =
        let rest = go placed in
        let behind = zone-behind (n + 1) ys (place_from (n + 1) ys z) z rest.0 in
        let most = rest.1 in
        let other : nat_eq n (place_from (n + 1) ys z) ≡ false = ne_eqb n (place_from (n + 1) ys z) (λ same. absurd (omega (arith, behind, same))) in
        (rw other rest.0, omega (arith, most))

-- of a state each of these cells has a place's world, and each place's cell is there
pub record ArePlaced (zones : List Name) (brands : List Tabled) (S : State) (cs : List PlaceCell) : Type 0 where
  pub each : (k : ℕ) (d : PlaceCell) → k < length cs → (p : ℕ) × CellIn brands (slice_index_or cs k d) (place_world zones p S)
  pub all : (p : ℕ) → 0 < p → p ≤ length zones + 1 → (k : ℕ) × (k < length cs) × ((d : PlaceCell) → CellIn brands (slice_index_or cs k d) (place_world zones p S))

module _ (zones : List Name) (brands : List Tabled) (S : State) where
  fits-in : (x : PlaceCell) (p : ℕ) → CellIn brands x (place_world zones p S) → Fits (λ z c. CellOf c (world z S)) x
  fits-in cells.Global p is = tt
  fits-in (cells.Zone z c) p is = subst (λ o. CellOf c (world_of_zone o S)) is.zone is.cell

  -- so each zone's cell has its world
  pub cells-fit : (cs : List PlaceCell) → ArePlaced zones brands S cs → (z : Name) (c : Cell) → put_all cs z ≡ Some c → CellOf c (world z S)
  cells-fit cs are = put-fits (λ z c. CellOf c (world z S)) (λ y. None) cs (λ z c is. absurd (cc)) (λ k d near. let it = are.each k d near in fits-in (slice_index_or cs k d) it.0 it.1)

  not-other : (x : PlaceCell) (p : ℕ) (z : Name) → CellIn brands x (place_world zones p S) → zone_at zones p ≡ Some z → IsOther z x → ⊥
  not-other cells.Global p z is there other = absurd (cc)
  not-other (cells.Zone y c) p z is there other =
      let same : y ≡ z = some-same y z (sym is.zone ∙ there) in
      false≢true (sym other ∙ subst (λ k. bytes_eq y k ≡ true) same (same_self y))
    where
      some-same : (a b : Name) → Some a ≡ Some b → a ≡ b
      some-same a b is = cc

  -- and a zone without a cell has nothing, if a zone without a place has nothing
  pub others-nothing : (cs : List PlaceCell) → ArePlaced zones brands S cs → ((z : Name) → place_of zones (Zone z) ≡ 0 → HasNothing (world z S)) → (z : Name) → put_all cs z ≡ None → HasNothing (world z S)
  others-nothing cs are others z none = at_test (nat_eq (place_of zones (Zone z)) 0) refl
    where
      at_test : (b : Bool) → nat_eq (place_of zones (Zone z)) 0 ≡ b → HasNothing (world z S)
      at_test true t = others z (eqb-true (place_of zones (Zone z)) 0 t)
      at_test false t =
          let p = place_of zones (Zone z) in
          let some : p ≢ 0 = λ same. absurd (false≢true (sym t ∙ eq-eqb p 0 same)) in
          let there = zone-placed 2 zones z some in
          let near = there.1 in
          let behind = zone-behind 2 zones p z there.0 in
          let it = are.all p (omega (arith, behind)) (omega (arith, near)) in
          absurd (not-other (slice_index_or cs it.0 cells.Global) p z (it.2 cells.Global) there.0 (put-other (λ y. None) cs z none it.0 cells.Global it.1))

  -- cells that came back are placed
  backs-at : (bs : List (Back PlaceCell)) (k : ℕ) (b : Back PlaceCell) → slice_index_or (map back_cell bs) k (back_cell b) ≡ back_cell (slice_index_or bs k b)
  backs-at [] k b = refl
  backs-at (x ∷ xs) zero b = refl
  backs-at (x ∷ xs) (suc k) b = backs-at xs k b

  backs-length : (bs : List (Back PlaceCell)) → length (map back_cell bs) ≡ length bs
  backs-length [] = refl
  backs-length (b ∷ bs) = ap suc (backs-length bs)

  abbrev as_back : PlaceCell → Back PlaceCell
  as_back d = record { place = 0; cell = d; marked = false }

  pub backs-placed : (bs : List (Back PlaceCell)) → All (λ (b : Back PlaceCell). b.marked ≡ false → CellIn brands b.cell (place_world zones b.place S)) bs → AreFree bs → AreAll (length zones + 1) bs → ArePlaced zones brands S (map back_cell bs)
  backs-placed bs backs free are = record {
    each = λ k d near.
        let inside : k < length bs = subst (λ n. k < n) (backs-length bs) near in
        let b = slice_index_or bs k (as_back d) in
        (b.place, subst (λ x. CellIn brands x (place_world zones b.place S)) (sym (backs-at bs k (as_back d))) (backs k (as_back d) inside (free k (as_back d) inside)));
    all = λ p some within.
        let it = each-there (length zones + 1) bs are p some within in (
          it.0,
          subst (λ n. it.0 < n) (sym (backs-length bs)) it.1,
          λ d.
              let b = slice_index_or bs it.0 (as_back d) in
              subst (λ x. CellIn brands x (place_world zones p S)) (sym (backs-at bs it.0 (as_back d)))
              (subst (λ q. CellIn brands b.cell (place_world zones q S)) (it.2 (as_back d)) (backs it.0 (as_back d) it.1 (free it.0 (as_back d) it.1))),
        );
  }

  -- and so are those that were not used
  pub cells-placed : (cs : List PlaceCell) → ((i : ℕ) (x : PlaceCell) → i < length cs → CellIn brands (slice_index_or cs i x) (place_world zones (i + 1) S)) → length cs ≡ length zones + 1 → ArePlaced zones brands S cs
  cells-placed cs each count = record {
    each = λ k d near. (k + 1, each k d near);
    all = λ p some within.
        let near : p - 1 < length cs = omega (arith, some, within, count) in
        let same : (p - 1) + 1 ≡ p = omega (arith, some) in
        (p - 1, near, λ d. subst (λ q. CellIn brands (slice_index_or cs (p - 1) d) (place_world zones q S)) same (each (p - 1) d near));
  }

-- an entry that has a place leaves a zone that has none
not-of : (zones : List Name) (z : Name) (s : Subject) → place_of zones (Zone z) ≡ 0 → not (nat_eq (place_of zones s) 0) ≡ true → concerns z s ≡ false
not-of zones z (Zone y) none placed =
    false_from_ne_true (bytes_eq z y) (λ t.
    let zero : place_of zones (Zone y) ≡ 0 = ap (λ k. place_of zones (Zone k)) (sym (same_true z y t)) ∙ none in
    false≢true (ap not (sym (eq-eqb (place_of zones (Zone y)) 0 zero)) ∙ placed))
not-of zones z Global none placed = refl
not-of zones z Whole none placed = absurd (false≢true placed)

one-stays : (zones : List Name) (S : State) (e : Entry) (z : Name) → place_of zones (Zone z) ≡ 0 → is_right_at zones S e ≡ true → world z (after_entry S e) ≡ world z S
one-stays zones S e z none right =
    let parts = and_parts (is_told S e && is_allowed S e.event e.grant) (not (nat_eq (place_of zones e.subject) 0)) right in
    let told = and_parts (is_told S e) (is_allowed S e.event e.grant) parts.0 in
    moves-world z S e told.0 ∙ world_by-other z e.subject (world z S) e.event e.grant (not-of zones z e.subject none parts.1)

pub unplaced-stays : {D : Type 0} (view : D → View) (v : View) (zones : List Name) (brands : List Tabled) (s : Past) (h : List Entry) (z : Name) → place_of zones (Zone z) ≡ 0
    → (let M = daemons view v zones brands in all_right M.right M.one s h ≡ true → world z (after (state_of brands s) h) ≡ world z (state_of brands s))
unplaced-stays view v zones brands s [] z none legal = refl
unplaced-stays view v zones brands s (e ∷ h) z none legal =
    let M = daemons view v zones brands in
    let next = record s { entries = e ∷ s.entries } in
    let parts = and_parts (is_right_at zones (state_of brands s) e) (all_right M.right M.one next h) legal in
    unplaced-stays view v zones brands next h z none parts.1 ∙ one-stays zones (state_of brands s) e z none parts.0

-- what is together stands apart
pub stand-apart : {D F : Type 0} (S : State) (p : Parted D F) (f : Name → Option Cell) (shared : Shared) (bodies : List (List ℕ)) → ((y : Name) → cell_apart y p ≡ f y) → p.shared ≡ shared → p.bank.records ≡ bodies → StandTogether S f shared bodies → StandApart S p
stand-apart S p f shared bodies same is_shared are t = record {
  cells = λ z c is. t.cells_are z c (sym (same z) ∙ is);
  others = λ z is. t.others z (sym (same z) ∙ is);
  shared = subst (λ (k : Shared). SharedOf k (common S)) (sym is_shared) t.shared_is;
  bodies = t.bodies_are ∙ sym are;
}
