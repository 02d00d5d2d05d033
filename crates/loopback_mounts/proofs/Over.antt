-- The mount over a path, found from the path upwards; and what follows of the path.
use Rattle.std.proofs.Common.{◌≡◌, ◌∷◌, ◌++◌, [], ℕ, ◌+◌, ◌<◌, ◌≤◌, List, Bool, true, false, Option, Some, None, not, filter, length, max, take, drop, get_or, nat_lt, refl, ap, sym, subst, arith, suc, zero, ◌∙◌}
use Rattle.std.specs.Prelude.{bytes_eq}
use Rattle.std.specs.List.{All, Contains, list_all, slice_split}
use Rattle.std.proofs.lemmas.Bool.{and_from, and_parts, false≢true, le-ltb, lt-ltb, ltb-false, ltb-true}
use Rattle.std.proofs.lemmas.List.{append-nil, length-append}
use Rattle.std.proofs.lemmas.List.Elements.{All-cons}
use Rattle.std.proofs.lemmas.Option.{same_Some}
use Rattle.zn_base.specs.Path.{first_bad, is_component, is_path, is_slash}
use Rattle.zone_pools.specs.Firsts.{first_of}
use Rattle.loopback_mounts.specs.Mounts.{has_path, is_at, mount_at}
use Rattle.loopback_mounts.specs.Paths.{IsParent, begins, components, depth}
use Rattle.loopback_mounts.specs.Places.{IsOver, covers_path, deeper, deepest, mount_over}
use Rattle.loopback_mounts.specs.declared.mount.MountEntry.{MountEntry}
use native.Mathlib.Numerals.{unary_clauses}
use Rattle.loopback_mounts.proofs.Orders.{bytes_itself, bytes_same}
use Rattle.loopback_mounts.proofs.Parts.{begins_front, begins_itself, begins_rest, from_parts, in_parts, same_parts, slash_alone, split_append}

-- two tests that answer alike keep alike
filter_alike : (p q : MountEntry → Bool) (ms : List MountEntry) → list_all has_path ms ≡ true → list_all (λ m. not (q m)) ms ≡ true
    → (f g : MountEntry → Bool) → ((m : MountEntry) → has_path m ≡ true → q m ≡ false → f m ≡ g m) → filter f ms ≡ filter g ms
filter_alike p q [] h n f g e = refl
filter_alike p q (m ∷ ms) h n f g e =
    let paths = and_parts (has_path m) (list_all has_path ms) h in
    let apart = and_parts (not (q m)) (list_all (λ m. not (q m)) ms) n in
    at_test (g m) refl (e m paths.0 (not_so (q m) apart.0)) (filter_alike p q ms paths.1 apart.1 f g e)
  where
    not_so : (b : Bool) → not b ≡ true → b ≡ false
    not_so true h = absurd (false≢true h)
    not_so false h = refl

    at_test : (b : Bool) → g m ≡ b → f m ≡ g m → filter f ms ≡ filter g ms → filter f (m ∷ ms) ≡ filter g (m ∷ ms)
    at_test true t s ih = rw (s, t) (ap (λ ns. m ∷ ns) ih)
    at_test false t s ih = rw (s, t) ih

-- no mount is found, so none is there
pub none_there : (p : MountEntry → Bool) (ms : List MountEntry) → first_of (filter p ms) ≡ None → list_all (λ m. not (p m)) ms ≡ true
none_there p [] h = refl
none_there p (m ∷ ms) h = at_test (p m) refl (none_there p ms)
  where
    at_test : (b : Bool) → p m ≡ b → (first_of (filter p ms) ≡ None → list_all (λ m. not (p m)) ms ≡ true) → list_all (λ m. not (p m)) (m ∷ ms) ≡ true
    at_test true e ih = let some : Some m ≡ None = simp e at h in cc
    at_test false e ih = let rest : first_of (filter p ms) ≡ None = simp e at h in rw e (ih rest)

-- a path over which no mount stands has the mount that its directory has
pub parent_over : (ms : List MountEntry) (p q : List ℕ) → list_all has_path ms ≡ true → is_path p ≡ true → IsParent p q → mount_at p ms ≡ None → mount_over ms p ≡ mount_over ms q
parent_over ms p q h hp up none =
    ap deepest (filter_alike (λ m. true) (is_at p) ms h (none_there (is_at p) ms none) (covers_path p) (covers_path q) alike)
  where
    alike : (m : MountEntry) → has_path m ≡ true → is_at p m ≡ false → covers_path p m ≡ covers_path q m
    alike m hm n =
        let apart : components m.mount.dir ≡ components q ++ up.last ∷ [] → ⊥ = λ e. false≢true (sym n ∙ same (same_parts m.mount.dir p hm hp (e ∙ sym up.parts))) in
        ap (begins (components m.mount.dir)) up.parts ∙ begins_front (components m.mount.dir) (components q) up.last apart
      where
        same : m.mount.dir ≡ p → is_at p m ≡ true
        same e = subst (λ (d : List ℕ). bytes_eq d p ≡ true) (sym e) (bytes_itself p)

-- over `/` stands what is mounted there
pub root_over : (ms : List MountEntry) (p : List ℕ) → list_all has_path ms ≡ true → is_path p ≡ true → length p ≡ 1 → mount_at p ms ≡ None → mount_over ms p ≡ None
root_over ms p h hp one none = ap deepest (filter_alike (λ m. true) (is_at p) ms h (none_there (is_at p) ms none) (covers_path p) (λ m. false) apart ∙ nothing ms)
  where
    nothing : (ms : List MountEntry) → filter (λ (m : MountEntry). false) ms ≡ []
    nothing [] = refl
    nothing (m ∷ ms) = nothing ms

    apart : (m : MountEntry) → has_path m ≡ true → is_at p m ≡ false → covers_path p m ≡ false
    apart m hm n = at_test (covers_path p m) refl
      where
        root : p ≡ 47 ∷ []
        root = slash_alone p hp one

        no_parts : (cs : List (List ℕ)) → begins cs [] ≡ true → cs ≡ []
        no_parts [] h = refl
        no_parts (c ∷ cs) h = absurd (false≢true h)

        at_test : (b : Bool) → covers_path p m ≡ b → covers_path p m ≡ false
        at_test true e =
            let over : begins (components m.mount.dir) [] ≡ true = subst (λ (q : List ℕ). begins (components m.mount.dir) (components q) ≡ true) root e in
            let same : m.mount.dir ≡ p = same_parts m.mount.dir p hm hp (no_parts (components m.mount.dir) over ∙ ap components (sym root)) in
            absurd (false≢true (sym n ∙ subst (λ (d : List ℕ). bytes_eq d p ≡ true) (sym same) (bytes_itself p)))
        at_test false e = e

-- a mount at the path itself is the one over it
module _ (p : List ℕ) (hp : is_path p ≡ true) where
  shorter : (m : MountEntry) → covers_path p m ≡ true → depth m.mount.dir ≤ depth p
  shorter m h = omega (arith, ap length (begins_rest (components m.mount.dir) (components p) h), length-append (components m.mount.dir) (drop (depth m.mount.dir) (components p)))

  -- none has more components
  bounded : (ms : List MountEntry) (n : MountEntry) → deepest (filter (covers_path p) ms) ≡ Some n → depth n.mount.dir ≤ depth p
  bounded [] n h = cc
  bounded (m ∷ ms) n h = at_test (covers_path p m) refl (bounded ms)
    where
      at_test : (b : Bool) → covers_path p m ≡ b → ((k : MountEntry) → deepest (filter (covers_path p) ms) ≡ Some k → depth k.mount.dir ≤ depth p) → depth n.mount.dir ≤ depth p
      at_test false e ih = let rest : deepest (filter (covers_path p) ms) ≡ Some n = simp e at h in ih n rest
      at_test true e ih = at_rest (deepest (filter (covers_path p) ms)) refl (simp e at h)
        where
          at_rest : (o : Option MountEntry) → deepest (filter (covers_path p) ms) ≡ o → Some (deeper m (deepest (filter (covers_path p) ms))) ≡ Some n → depth n.mount.dir ≤ depth p
          at_rest None f g =
              let is : m ≡ n = same_Some m n (subst (λ (o : Option MountEntry). Some (deeper m o) ≡ Some n) f g) in
              subst (λ (k : MountEntry). depth k.mount.dir ≤ depth p) is (shorter m e)
          at_rest (Some k) f g = at_lt (nat_lt (depth m.mount.dir) (depth k.mount.dir)) refl (same_Some (deeper m (Some k)) n (subst (λ (o : Option MountEntry). Some (deeper m o) ≡ Some n) f g))
            where
              at_lt : (b : Bool) → nat_lt (depth m.mount.dir) (depth k.mount.dir) ≡ b → deeper m (Some k) ≡ n → depth n.mount.dir ≤ depth p
              at_lt true t s = let is : k ≡ n = simp t at s in subst (λ (x : MountEntry). depth x.mount.dir ≤ depth p) is (ih k f)
              at_lt false t s = let is : m ≡ n = simp t at s in subst (λ (x : MountEntry). depth x.mount.dir ≤ depth p) is (shorter m e)

  -- another one has fewer
  fewer : (m : MountEntry) → has_path m ≡ true → covers_path p m ≡ true → is_at p m ≡ false → depth m.mount.dir < depth p
  fewer m hm h n = at_rest (drop (depth m.mount.dir) (components p)) refl
    where
      at_rest : (r : List (List ℕ)) → drop (depth m.mount.dir) (components p) ≡ r → depth m.mount.dir < depth p
      at_rest [] e =
          let all : components p ≡ components m.mount.dir = begins_rest (components m.mount.dir) (components p) h ∙ (ap (λ r. components m.mount.dir ++ r) e ∙ append-nil (components m.mount.dir)) in
          let same = same_parts m.mount.dir p hm hp (sym all) in
          absurd (false≢true (sym n ∙ subst (λ (d : List ℕ). bytes_eq d p ≡ true) (sym same) (bytes_itself p)))
      at_rest (c ∷ r) e =
          let split : components p ≡ components m.mount.dir ++ c ∷ r = begins_rest (components m.mount.dir) (components p) h ∙ ap (λ r. components m.mount.dir ++ r) e in
          omega (arith, ap length split, length-append (components m.mount.dir) (c ∷ r))

  at_path : (m : MountEntry) → is_at p m ≡ true → (covers_path p m ≡ true) × (depth m.mount.dir ≡ depth p)
  at_path m h =
      let same : m.mount.dir ≡ p = bytes_same m.mount.dir p h in
      (subst (λ (d : List ℕ). begins (components d) (components p) ≡ true) (sym same) (subst (λ (cs : List (List ℕ)). begins (components p) cs ≡ true) (append-nil (components p)) (begins_itself (components p) [])), ap depth same)

  pub over_itself : (ms : List MountEntry) (n : MountEntry) → list_all has_path ms ≡ true → mount_at p ms ≡ Some n → mount_over ms p ≡ Some n
  over_itself [] n h g = cc
  over_itself (m ∷ ms) n h g = at_test (is_at p m) refl (over_itself ms n (and_parts (has_path m) (list_all has_path ms) h).1)
    where
      at_test : (b : Bool) → is_at p m ≡ b → (mount_at p ms ≡ Some n → mount_over ms p ≡ Some n) → mount_over (m ∷ ms) p ≡ Some n
      at_test true e ih =
          let is : m ≡ n = same_Some m n (simp e at g) in
          let here = at_path m e in
          rw here.0 (at_rest (deepest (filter (covers_path p) ms)) refl ∙ ap (λ (x : MountEntry). Some x) is)
        where
          at_rest : (o : Option MountEntry) → deepest (filter (covers_path p) ms) ≡ o → Some (deeper m (deepest (filter (covers_path p) ms))) ≡ Some m
          at_rest None f = ap (λ (o : Option MountEntry). Some (deeper m o)) f
          at_rest (Some k) f =
              let low = bounded ms k f in
              let depths = (at_path m e).1 in
              let not_less : nat_lt (depth m.mount.dir) (depth k.mount.dir) ≡ false = le-ltb (depth m.mount.dir) (depth k.mount.dir) (omega arith) in
              ap (λ (o : Option MountEntry). Some (deeper m o)) f ∙ rw not_less refl
      at_test false e ih = at_cover (covers_path p m) refl
        where
          rest : mount_at p ms ≡ Some n
          rest = simp e at g

          at_cover : (b : Bool) → covers_path p m ≡ b → mount_over (m ∷ ms) p ≡ Some n
          at_cover false f = rw f (ih rest)
          at_cover true f =
              let paths = and_parts (has_path m) (list_all has_path ms) h in
              let low = fewer m paths.0 f e in
              let found = ih rest in
              let deep : depth n.mount.dir ≡ depth p = (at_path n (there ms rest)).1 in
              let less : nat_lt (depth m.mount.dir) (depth n.mount.dir) ≡ true = lt-ltb (depth m.mount.dir) (depth n.mount.dir) (omega arith) in
              rw f (ap (λ (o : Option MountEntry). Some (deeper m o)) found ∙ rw less refl)
            where
              there : (ms : List MountEntry) → mount_at p ms ≡ Some n → is_at p n ≡ true
              there [] g = cc
              there (k ∷ ms) g = at_k (is_at p k) refl (there ms)
                where
                  at_k : (b : Bool) → is_at p k ≡ b → (mount_at p ms ≡ Some n → is_at p n ≡ true) → is_at p n ≡ true
                  at_k true e ih = let is : k ≡ n = same_Some k n (simp e at g) in subst (λ (x : MountEntry). is_at p x ≡ true) is e
                  at_k false e ih = ih (simp e at g)

-- the directory of a path ends before its last slash
first_bad_front : (ps qs : List (List ℕ)) (at : ℕ) → first_bad at (ps ++ qs) ≡ None → first_bad at ps ≡ None
first_bad_front [] qs at h = refl
first_bad_front (p ∷ ps) qs at h = at_good (is_component p) refl (first_bad_front ps qs (at + length p + 1))
  where
    at_good : (b : Bool) → is_component p ≡ b → (first_bad (at + length p + 1) (ps ++ qs) ≡ None → first_bad (at + length p + 1) ps ≡ None) → first_bad at (p ∷ ps) ≡ None
    at_good true e ih = rw e (ih (simp e at h))
    at_good false e ih = let none : Some at ≡ None = simp e at h in cc

no_slash : (xs : List ℕ) → list_all (λ b. not (is_slash b)) xs ≡ true → slice_split is_slash xs ≡ xs ∷ []
no_slash [] h = refl
no_slash (x ∷ xs) h =
    let both = and_parts (not (is_slash x)) (list_all (λ b. not (is_slash b)) xs) h in
    at_slash (is_slash x) refl both.0 (no_slash xs both.1)
  where
    at_slash : (b : Bool) → is_slash x ≡ b → not (is_slash x) ≡ true → slice_split is_slash xs ≡ xs ∷ [] → slice_split is_slash (x ∷ xs) ≡ (x ∷ xs) ∷ []
    at_slash true e n ih = absurd (false≢true (rw e at n))
    at_slash false e n ih = rw (e, ih) refl

-- a list at a place
pub at_place : (xs : List ℕ) (i b : ℕ) → i < length xs → get_or xs i 0 ≡ b → xs ≡ take i xs ++ b ∷ drop (suc i) xs
at_place [] i b l e = absurd (omega arith)
at_place (x ∷ xs) zero b l e = ap (λ (y : ℕ). y ∷ xs) e
at_place (x ∷ xs) (suc i) b l e = ap (λ ys. x ∷ ys) (at_place xs i b (omega arith) e)

bounded_front : (xs : List ℕ) (i : ℕ) → length (take i xs) ≤ length xs
bounded_front xs zero = omega arith
bounded_front [] (suc i) = omega arith
bounded_front (x ∷ xs) (suc i) = let l = bounded_front xs i in omega arith

parent_below : (x : ℕ) (xs : List ℕ) (end : ℕ) → first_bad 1 (slice_split is_slash (x ∷ xs)) ≡ None → length (47 ∷ x ∷ xs) ≤ 1023 → end < length (47 ∷ x ∷ xs) → get_or (47 ∷ x ∷ xs) end 0 ≡ 47
    → list_all (λ b. not (is_slash b)) (drop (suc end) (47 ∷ x ∷ xs)) ≡ true → IsParent (47 ∷ x ∷ xs) (take (max end 1) (47 ∷ x ∷ xs))
parent_below x xs zero good short l at n = record { path_too = refl; last = x ∷ xs; parts = no_slash (x ∷ xs) n }
parent_below x xs (suc zero) good short l at n =
    let bad : first_bad 1 (slice_split is_slash (47 ∷ xs)) ≡ None = subst (λ (y : ℕ). first_bad 1 (slice_split is_slash (y ∷ xs)) ≡ None) at good in
    let none : ◌≡◌ {A = Option ℕ} (Some 1) None = bad in
    cc
parent_below x xs (suc (suc e)) good short l at n =
    let whole : xs ≡ take e xs ++ 47 ∷ drop (suc e) xs = at_place xs e 47 (omega arith) at in
    let rest = drop (suc e) xs in
    let split : slice_split is_slash (x ∷ xs) ≡ slice_split is_slash (x ∷ take e xs) ++ rest ∷ [] =
    ap (λ (ys : List ℕ). slice_split is_slash (x ∷ ys)) whole ∙ (split_append (x ∷ take e xs) rest ∙ ap (λ (ps : List (List ℕ)). slice_split is_slash (x ∷ take e xs) ++ ps) (no_slash rest n)) in
    let front : first_bad 1 (slice_split is_slash (x ∷ take e xs)) ≡ None =
    first_bad_front (slice_split is_slash (x ∷ take e xs)) (rest ∷ []) 1 (subst (λ (ps : List (List ℕ)). first_bad 1 ps ≡ None) split good) in
    let shorter = bounded_front xs e in
    let greater : suc (suc e) ≡ max (suc (suc e)) 1 = omega arith in
    subst (λ (k : ℕ). IsParent (47 ∷ x ∷ xs) (take k (47 ∷ x ∷ xs))) greater
    (record { path_too = from_parts (x ∷ take e xs) (omega arith) front; last = rest; parts = split })

pub parent_parts : (p : List ℕ) (end : ℕ) → is_path p ≡ true → 1 < length p → end < length p → get_or p end 0 ≡ 47 → list_all (λ b. not (is_slash b)) (drop (end + 1) p) ≡ true → IsParent p (take (max end 1) p)
parent_parts p end hp l e at n = let parts = in_parts p hp in by_below parts.below parts.is parts.good parts.short
  where
    by_below : (t : List ℕ) → p ≡ 47 ∷ t → first_bad 1 (components p) ≡ None → length p ≤ 1023 → IsParent p (take (max end 1) p)
    by_below [] f good short = absurd (omega (arith, ap length f))
    by_below (x ∷ xs) f good short =
        let behind : list_all (λ b. not (is_slash b)) (drop (suc end) p) ≡ true = simp unary_clauses at n in
        subst (λ (q : List ℕ). IsParent q (take (max end 1) q)) (sym f)
        (parent_below x xs end (subst (λ (q : List ℕ). first_bad 1 (components q) ≡ None) f good) (subst (λ (q : List ℕ). length q ≤ 1023) f short) (subst (λ (q : List ℕ). end < length q) f e)
        (subst (λ (q : List ℕ). get_or q end 0 ≡ 47) f at) (subst (λ (q : List ℕ). list_all (λ b. not (is_slash b)) (drop (suc end) q) ≡ true) f behind))

-- what the deepest of some mounts is
deepest_passes : (q : MountEntry → Bool) (ms : List MountEntry) (n : MountEntry) → list_all q ms ≡ true → deepest ms ≡ Some n → q n ≡ true
deepest_passes q [] n h e = cc
deepest_passes q (m ∷ ms) n h e =
    let both = and_parts (q m) (list_all q ms) h in
    at_rest (deepest ms) refl (deepest_passes q ms)
  where
    at_rest : (o : Option MountEntry) → deepest ms ≡ o → ((k : MountEntry) → list_all q ms ≡ true → deepest ms ≡ Some k → q k ≡ true) → q n ≡ true
    at_rest None f ih =
        let is : m ≡ n = same_Some m n (subst (λ (o : Option MountEntry). Some (deeper m o) ≡ Some n) f e) in
        subst (λ (x : MountEntry). q x ≡ true) is (and_parts (q m) (list_all q ms) h).0
    at_rest (Some k) f ih = at_lt (nat_lt (depth m.mount.dir) (depth k.mount.dir)) refl (same_Some (deeper m (Some k)) n (subst (λ (o : Option MountEntry). Some (deeper m o) ≡ Some n) f e))
      where
        at_lt : (b : Bool) → nat_lt (depth m.mount.dir) (depth k.mount.dir) ≡ b → deeper m (Some k) ≡ n → q n ≡ true
        at_lt true t s = let is : k ≡ n = simp t at s in subst (λ (x : MountEntry). q x ≡ true) is (ih k (and_parts (q m) (list_all q ms) h).1 f)
        at_lt false t s = let is : m ≡ n = simp t at s in subst (λ (x : MountEntry). q x ≡ true) is (and_parts (q m) (list_all q ms) h).0

all_pass : (p : MountEntry → Bool) (ms : List MountEntry) → list_all p (filter p ms) ≡ true
all_pass p [] = refl
all_pass p (m ∷ ms) = at_test (p m) refl (all_pass p ms)
  where
    at_test : (b : Bool) → p m ≡ b → list_all p (filter p ms) ≡ true → list_all p (filter p (m ∷ ms)) ≡ true
    at_test true e ih = rw e (and_from _ _ e ih)
    at_test false e ih = rw e ih

pub over_covers : (ms : List MountEntry) (p : List ℕ) (m : MountEntry) → mount_over ms p ≡ Some m → covers_path p m ≡ true
over_covers ms p m e = deepest_passes (covers_path p) (filter (covers_path p) ms) m (all_pass (covers_path p) ms) e

deepest_none : (ms : List MountEntry) → deepest ms ≡ None → ms ≡ []
deepest_none [] h = refl
deepest_none (m ∷ ms) h = cc

pub none_over : (ms : List MountEntry) (p : List ℕ) → mount_over ms p ≡ None → list_all (λ m. not (covers_path p m)) ms ≡ true
none_over ms p h = none_there (covers_path p) ms (ap first_of (deepest_none (filter (covers_path p) ms) h))

among : (q : MountEntry → Bool) (ms : List MountEntry) (n : MountEntry) → deepest (filter q ms) ≡ Some n → Contains ms n
among q [] n h = cc
among q (m ∷ ms) n h = at_test (q m) refl (among q ms)
  where
    further : Contains ms n → Contains (m ∷ ms) n
    further at = (suc at.0, omega (arith, at.1), at.2)

    here : m ≡ n → Contains (m ∷ ms) n
    here e = (zero, omega arith, e)

    at_test : (b : Bool) → q m ≡ b → ((k : MountEntry) → deepest (filter q ms) ≡ Some k → Contains ms k) → Contains (m ∷ ms) n
    at_test false e ih = further (ih n (simp e at h))
    at_test true e ih = at_rest (deepest (filter q ms)) refl (simp e at h)
      where
        at_rest : (o : Option MountEntry) → deepest (filter q ms) ≡ o → Some (deeper m (deepest (filter q ms))) ≡ Some n → Contains (m ∷ ms) n
        at_rest None f g = here (same_Some m n (subst (λ (o : Option MountEntry). Some (deeper m o) ≡ Some n) f g))
        at_rest (Some k) f g = at_lt (nat_lt (depth m.mount.dir) (depth k.mount.dir)) refl (same_Some (deeper m (Some k)) n (subst (λ (o : Option MountEntry). Some (deeper m o) ≡ Some n) f g))
          where
            at_lt : (b : Bool) → nat_lt (depth m.mount.dir) (depth k.mount.dir) ≡ b → deeper m (Some k) ≡ n → Contains (m ∷ ms) n
            at_lt true t s = let is : k ≡ n = simp t at s in further (ih n (f ∙ ap (λ (x : MountEntry). Some x) is))
            at_lt false t s = let is : m ≡ n = simp t at s in here is

abbrev pub Lower : List ℕ → MountEntry → MountEntry → Type 0
Lower p m n = covers_path p n ≡ true → depth n.mount.dir ≤ depth m.mount.dir

most : (p : List ℕ) (ms : List MountEntry) (n : MountEntry) → mount_over ms p ≡ Some n → All (Lower p n) ms
most p [] n h = λ k d l. absurd (omega arith)
most p (m ∷ ms) n h = at_test (covers_path p m) refl (most p ms)
  where
    at_test : (b : Bool) → covers_path p m ≡ b → ((k : MountEntry) → mount_over ms p ≡ Some k → All (Lower p k) ms) → All (Lower p n) (m ∷ ms)
    at_test false e ih = All-cons (Lower p n) m ms (λ c. absurd (false≢true (sym e ∙ c))) (ih n (simp e at h))
    at_test true e ih = at_rest (deepest (filter (covers_path p) ms)) refl (simp e at h)
      where
        none_lower : (ks : List MountEntry) → list_all (λ k. not (covers_path p k)) ks ≡ true → All (Lower p n) ks
        none_lower [] h = λ k d l. absurd (omega arith)
        none_lower (k ∷ ks) h =
            let both = and_parts (not (covers_path p k)) (list_all (λ k. not (covers_path p k)) ks) h in
            All-cons (Lower p n) k ks (λ c. absurd (false≢true (rw c at both.0))) (none_lower ks both.1)

        at_rest : (o : Option MountEntry) → deepest (filter (covers_path p) ms) ≡ o → Some (deeper m (deepest (filter (covers_path p) ms))) ≡ Some n → All (Lower p n) (m ∷ ms)
        at_rest None f g =
            let is : m ≡ n = same_Some m n (subst (λ (o : Option MountEntry). Some (deeper m o) ≡ Some n) f g) in
            All-cons (Lower p n) m ms (λ c. subst (λ (x : MountEntry). depth m.mount.dir ≤ depth x.mount.dir) is (omega arith)) (none_lower ms (none_over ms p f))
        at_rest (Some k) f g = at_lt (nat_lt (depth m.mount.dir) (depth k.mount.dir)) refl (same_Some (deeper m (Some k)) n (subst (λ (o : Option MountEntry). Some (deeper m o) ≡ Some n) f g))
          where
            at_lt : (b : Bool) → nat_lt (depth m.mount.dir) (depth k.mount.dir) ≡ b → deeper m (Some k) ≡ n → All (Lower p n) (m ∷ ms)
            at_lt true t s =
                let is : k ≡ n = simp t at s in
                let less = ltb-true (depth m.mount.dir) (depth k.mount.dir) t in
                All-cons (Lower p n) m ms (λ c. subst (λ (x : MountEntry). depth m.mount.dir ≤ depth x.mount.dir) is (omega arith)) (ih n (f ∙ ap (λ (x : MountEntry). Some x) is))
            at_lt false t s =
                let is : m ≡ n = simp t at s in
                let not_less = ltb-false (depth m.mount.dir) (depth k.mount.dir) t in
                let lower = ih k f in
                subst (λ (x : MountEntry). All (Lower p x) (m ∷ ms)) is
                (All-cons (Lower p m) m ms (λ c. omega arith) (λ i d l c. let low = lower i d l c in omega (arith, low, not_less)))

pub is_over : (ms : List MountEntry) (p : List ℕ) (m : MountEntry) → mount_over ms p ≡ Some m → IsOver ms p m
is_over ms p m h = record { among = among (covers_path p) ms m h; over = over_covers ms p m h; most = most p ms m h }
