-- Places are apart where no zone stands twice, and what lies in them is what the map had.
use Rattle.std.proofs.Common.{◌≡◌, ◌<◌, ◌+◌, ◌++◌, ◌∷◌, [], ℕ, zero, suc, List, Bool, Option, Some, None, true, false, ap, arith, length, map, nat_eq, not, refl, subst, sym, ◌∙◌}
use Rattle.std.specs.Prelude.{◌≤◌, bytes_eq, slice_index_or, vec_capacity, if◌then◌else◌}
use Rattle.std.specs.List.{AllByRecursion, IsDistinct, list_any}
use Rattle.std.proofs.lemmas.Bool.{and_from, and_parts, eqb-true, false≢true, or_parts}
use Rattle.std.specs.Map.{lookup}
use Rattle.indexmap.specs.IndexMap.{spare}
use Rattle.zn_base.specs.Names.{Name}
use Rattle.zone_cases.specs.declared.cell.Cell.{Cell}
use Rattle.zone_machine.specs.Shown.{nothing_shown}
use Rattle.zone_machine.specs.declared.machine.Machine.{Machine}
use Rattle.zone_machine.specs.declared.machine.shown.Shown.{Shown}
use Rattle.zone_pools.proofs.Owned_laws.{same_self, same_true}
use Rattle.zone_threads.specs.Folds.{folded}
use Rattle.session_records.specs.Places.{AreApart, place_from, zone_from}
use Rattle.daemon_threads.specs.Dealing.{IsAsBefore, IsRoomFor, all_differ, if_all_differ, names_of, shown_all, shown_of, shown_one}
use Rattle.daemon_threads.specs.Names.{none_apart}
use Rattle.daemon_threads.specs.declared.dealing.Dealt.{Dealt}
use Rattle.zone_machine.specs.Code.Shown_zones.{shown_in}

-- more of a list that is folded
pub folded-more : {A E : Type 0} (step : A → E → A) (a : A) (xs : List E) (y : E) → folded step a (xs ++ y ∷ []) ≡ step (folded step a xs) y
folded-more step a [] y = refl
folded-more step a (x ∷ xs) y = folded-more step (step a x) xs y

none-any : (z : Name) (zs : List Name) → AllByRecursion (λ (y : Name). bytes_eq z y ≡ false) zs → list_any (bytes_eq z) zs ≡ false
none-any z [] all = refl
none-any z (y ∷ ys) all = rw (all.0) (none-any z ys all.1)

pub differ-all : (zs : List Name) → IsDistinct bytes_eq zs → all_differ zs ≡ true
unfolding IsDistinct
differ-all [] distinct = refl
differ-all (z ∷ zs) distinct = and_from _ _ (ap not (none-any z zs distinct.0)) (differ-all zs distinct.1)

not-true : (b : Bool) → not b ≡ true → b ≡ false
not-true true h = absurd (false≢true h)
not-true false h = refl

-- a zone whose place is among those behind is none but one of these
other-zone : (y : Name) (n : ℕ) (zs : List Name) (p : ℕ) (z : Name) → list_any (bytes_eq y) zs ≡ false → zone_from n zs p ≡ Some z → bytes_eq y z ≡ false
other-zone y n [] p z away is = absurd (cc)
other-zone y n (x ∷ xs) p z away is = at_test (other-zone y (n + 1) xs p z) (nat_eq n p) refl is
  where
    parts : (bytes_eq y x ≡ false) × (list_any (bytes_eq y) xs ≡ false)
    parts = or_parts (bytes_eq y x) (list_any (bytes_eq y) xs) away

    or_else : Option Name → Name
    or_else None = x
    or_else (Some k) = k

    at_test : (list_any (bytes_eq y) xs ≡ false → zone_from (n + 1) xs p ≡ Some z → bytes_eq y z ≡ false) → (b : Bool) → nat_eq n p ≡ b → (if b then Some x else zone_from (n + 1) xs p) ≡ Some z → bytes_eq y z ≡ false
    at_test go true t is = subst (λ k. bytes_eq y k ≡ false) (ap or_else is) parts.0
    at_test go false t is = go parts.1 is

apart-from : (n : ℕ) (zs : List Name) (p : ℕ) (z : Name) → all_differ zs ≡ true → zone_from n zs p ≡ Some z → place_from n zs z ≡ p
apart-from n [] p z differ is = absurd (cc)
apart-from n (x ∷ xs) p z differ is = at_test (apart-from (n + 1) xs p z) (nat_eq n p) refl is
  where
    parts : (not (list_any (bytes_eq x) xs) ≡ true) × (all_differ xs ≡ true)
    parts = and_parts (not (list_any (bytes_eq x) xs)) (all_differ xs) differ

    or_else : Option Name → Name
    or_else None = x
    or_else (Some k) = k

    own : place_from n (x ∷ xs) x ≡ n
    own = rw (same_self x) refl

    at_test : (all_differ xs ≡ true → zone_from (n + 1) xs p ≡ Some z → place_from (n + 1) xs z ≡ p) → (b : Bool) → nat_eq n p ≡ b → (if b then Some x else zone_from (n + 1) xs p) ≡ Some z → place_from n (x ∷ xs) z ≡ p
    at_test go true t is = subst (λ k. place_from n (x ∷ xs) k ≡ n) (ap or_else is) own ∙ eqb-true n p t
    at_test go false t is =
        let away : bytes_eq x z ≡ false = other-zone x (n + 1) xs p z (not-true (list_any (bytes_eq x) xs) parts.0) is in
        rw away (go parts.1 is)

pub apart-all : (zs : List Name) → all_differ zs ≡ true → AreApart zs
apart-all zs differ p z is = apart-from 2 zs p z differ is

pub apart-if : (zs : List Name) → AreApart (if_all_differ zs)
apart-if zs = at_test (all_differ zs) refl
  where
    at_test : (b : Bool) → all_differ zs ≡ b → AreApart (if b then zs else [])
    at_test true t = apart-all zs t
    at_test false t = none_apart

pub if-differ : (zs : List Name) → all_differ zs ≡ true → if_all_differ zs ≡ zs
if-differ zs differ = ap (λ (b : Bool). if b then zs else []) differ

-- no key that stands in a map stands in the rest
none-lookup : (z : Name) (es : List (Name × Cell)) → list_any (bytes_eq z) (names_of es) ≡ false → lookup (bytes_eq z) es ≡ None
none-lookup z [] away = refl
none-lookup z (e ∷ es) away = let parts = or_parts (bytes_eq z e.0) (list_any (bytes_eq z) (names_of es)) away in rw (parts.0) (none-lookup z es parts.1)

some-lookup : (z : Name) (es : List (Name × Cell)) (i : ℕ) (d : Name × Cell) → i < length es → list_any (bytes_eq z) (names_of es) ≡ false → bytes_eq (slice_index_or es i d).0 z ≡ false
some-lookup z [] i d near away = absurd (omega (arith, near))
some-lookup z (e ∷ es) zero d near away = flip (bytes_eq e.0 z) refl
  where
    parts : (bytes_eq z e.0 ≡ false) × (list_any (bytes_eq z) (names_of es) ≡ false)
    parts = or_parts (bytes_eq z e.0) (list_any (bytes_eq z) (names_of es)) away

    flip : (b : Bool) → bytes_eq e.0 z ≡ b → b ≡ false
    flip true t = absurd (false≢true (sym parts.0 ∙ subst (λ k. bytes_eq z k ≡ true) (sym (same_true e.0 z t)) (same_self z)))
    flip false t = refl
some-lookup z (e ∷ es) (suc i) d near away =
    some-lookup z es i d (omega (arith, near)) (or_parts (bytes_eq z e.0) (list_any (bytes_eq z) (names_of es)) away).1

-- each zone's cell is the one of the map
pub its-cell : (es : List (Name × Cell)) (i : ℕ) (d : Name × Cell) → all_differ (names_of es) ≡ true → i < length es → lookup (bytes_eq (slice_index_or es i d).0) es ≡ Some (slice_index_or es i d).1
its-cell [] i d differ near = absurd (omega (arith, near))
its-cell (e ∷ es) zero d differ near = rw (same_self e.0) refl
its-cell (e ∷ es) (suc i) d differ near =
    let parts = and_parts (not (list_any (bytes_eq e.0) (names_of es))) (all_differ (names_of es)) differ in
    let away : bytes_eq (slice_index_or es i d).0 e.0 ≡ false = some-lookup e.0 es i d (omega (arith, near)) (not-true (list_any (bytes_eq e.0) (names_of es)) parts.0) in
    rw away (its-cell es i d parts.1 (omega (arith, near)))

-- what a cell shows that may be there
abbrev pub shown-or : Shown → Option Cell → Shown
shown-or s None = s
shown-or s (Some c) = shown_of c

shown-from : (f : Name → Shown) (es : List (Name × Cell)) (y : Name) → all_differ (names_of es) ≡ true → folded shown_one f es y ≡ shown-or (f y) (lookup (bytes_eq y) es)
shown-from f [] y differ = refl
shown-from f (e ∷ es) y differ = shown-from (shown_one f e) es y parts.1 ∙ at_test (bytes_eq y e.0) refl
  where
    parts : (not (list_any (bytes_eq e.0) (names_of es)) ≡ true) × (all_differ (names_of es) ≡ true)
    parts = and_parts (not (list_any (bytes_eq e.0) (names_of es))) (all_differ (names_of es)) differ

    flip : (b : Bool) → bytes_eq e.0 y ≡ b → bytes_eq y e.0 ≡ false → b ≡ false
    flip true t other = absurd (false≢true (sym other ∙ subst (λ k. bytes_eq y k ≡ true) (sym (same_true e.0 y t)) (same_self y)))
    flip false t other = refl

    at_test : (b : Bool) → bytes_eq y e.0 ≡ b → shown-or (shown_one f e y) (lookup (bytes_eq y) es) ≡ shown-or (f y) (if b then Some e.1 else lookup (bytes_eq y) es)
    at_test true t =
        let same : y ≡ e.0 = same_true y e.0 t in
        let none : lookup (bytes_eq y) es ≡ None = none-lookup y es (subst (λ k. list_any (bytes_eq k) (names_of es) ≡ false) (sym same) (not-true (list_any (bytes_eq e.0) (names_of es)) parts.0)) in
        ap (shown-or (shown_one f e y)) none ∙ ap (λ (b : Bool). if b then shown_of e.1 else f y) (subst (λ k. bytes_eq e.0 k ≡ true) (sym same) (same_self e.0))
    at_test false t = ap (λ s. shown-or s (lookup (bytes_eq y) es)) (ap (λ (b : Bool). if b then shown_of e.1 else f y) (flip (bytes_eq e.0 y) refl t))

pub shown-by : (es : List (Name × Cell)) (y : Name) → all_differ (names_of es) ≡ true → shown_all es y ≡ shown-or nothing_shown (lookup (bytes_eq y) es)
shown-by es y differ = shown-from (λ y. nothing_shown) es y differ

-- and so does one after another
pub as-before-none : {D F : Type 0} (m : Machine D F) → IsAsBefore m m
as-before-none m = record { parts = λ S. (λ s. s, λ s. s); shared = refl; bank = refl; brands = refl }

pub as-before-on : {D F : Type 0} (m n k : Machine D F) → IsAsBefore m n → IsAsBefore n k → IsAsBefore m k
as-before-on m n k a b = record { parts = λ S. ((λ s. (b.parts S).0 ((a.parts S).0 s)), (λ s. (a.parts S).1 ((b.parts S).1 s))); shared = b.shared ∙ a.shared; bank = b.bank ∙ a.bank; brands = b.brands ∙ a.brands }

pub map-more : {A B : Type 0} (f : A → B) (xs : List A) (y : A) → map f (xs ++ y ∷ []) ≡ map f xs ++ f y ∷ []
map-more f [] y = refl
map-more f (x ∷ xs) y = ap (λ l. f x ∷ l) (map-more f xs y)

-- one zone more is named
pub room-one : (done : List (Name × Cell)) (z : Name) (c : Cell) (places : ℕ) (d e : Dealt) → IsRoomFor done places d → e.zones.items ≡ d.zones.items ++ z ∷ []
    → ((y : Name) → shown_in e.shown y ≡ (if bytes_eq z y then shown_of c else shown_in d.shown y)) → e.cells ≡ d.cells → e.room ≡ d.room → IsRoomFor (done ++ (z, c) ∷ []) places e
room-one done z c places d e are zones shows cells room = record {
  zones = zones ∙ (ap (λ l. l ++ z ∷ []) are.zones ∙ sym (map-more (λ (x : Name × Cell). x.0) done (z, c)));
  shown = λ y. shows y ∙ (ap (λ s. if bytes_eq z y then shown_of c else s) (are.shown y) ∙ sym (ap (λ (f : Name → Shown). f y) (folded-more shown_one (λ y. nothing_shown) done (z, c))));
  cells = ap (λ v. v.items) cells ∙ are.cells;
  none = ap (λ m. m.entries) room ∙ are.none;
  capacity = subst (λ v. places ≤ vec_capacity v) (sym cells) are.capacity;
  fits = subst (λ m. places ≤ spare m) (sym room) are.fits;
}
