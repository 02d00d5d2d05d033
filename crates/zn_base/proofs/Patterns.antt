-- What a star fits, and which parts of a pattern stand where.
use Rattle.std.proofs.Common.{◌≡◌, ◌≢◌, ◌+◌, ◌<◌, ◌≤◌, nat_le, nat_lt, get_or, length, ℕ, zero, suc, Bool, true, false, cond, not, ◌||◌, ◌&&◌, ◌⊎◌, Option, Some, None, List, [], ◌∷◌, drop, refl, ap, sym, ◌∙◌, inl, inr, ⊎_elim, arith}
use Rattle.std.specs.Prelude.{◌==◌}
use Rattle.std.specs.List.{list_any, position, position_or_len}
use Rattle.std.proofs.lemmas.Bool.{ne_eqb, or_parts, le-ltb, or_cases, or_right, and_cases, ltb-true, ltb-false, or_left, and_parts, and_from, cases_Bool, eqb-true, both_ways, true_from_ne_false, false_from_ne_true}
use Rattle.std.proofs.lemmas.List.{drop_more, get_or-drop, length-drop, drop-drop, drop_all}
use Rattle.std.proofs.Math.Bool.{or-false}
use Rattle.std.proofs.lemmas.Bool.Decides.{nat_tests}
use Rattle.zn_base.specs.Path.{is_slash}
use Rattle.zn_base.specs.Glob.{Part, Star, One, fits, parts, parts_behind, rests, bracket_end, bracket_size, stands_for, is_listed, is_close}
use Rattle.zn_base.specs.Runs.{IsBehindCloses, PassesPart, fits_from, star_fits_from}

-- after n bytes stand the parts of what is left there
pub parts_behind-drop : (n : ℕ) (bytes : List ℕ) → parts_behind n bytes ≡ parts (drop n bytes)
parts_behind-drop zero bytes = refl
parts_behind-drop (suc n) [] = refl
parts_behind-drop (suc n) (b ∷ bytes) = parts_behind-drop n bytes

-- what a star with parts after it fits
abbrev pub starred : List Part → List ℕ → Bool
starred ps path = fits (Star ∷ ps) path

pub star_here : (ps : List Part) (path : List ℕ) → fits ps path ≡ true → starred ps path ≡ true
star_here ps [] h = rw h refl
star_here ps (c ∷ path) h = rw h refl

pub star_more : (ps : List Part) (c : ℕ) (path : List ℕ) → is_slash c ≡ false → starred ps path ≡ true → starred ps (c ∷ path) ≡ true
star_more ps c path h e = rw h (or_right (fits ps (c ∷ path)) (starred ps path) e)

-- a star fits nothing more, or one byte other than a slash and more
pub star_cases : (ps : List Part) (c : ℕ) (path : List ℕ) → starred ps (c ∷ path) ≡ true → (fits ps (c ∷ path) ≡ true) ⊎ ((is_slash c ≡ false) × (starred ps path ≡ true))
star_cases ps c path h =
    elim (is_slash c) as (λ v. (fits ps (c ∷ path) || list_any (fits ps) (cond v [] (rests path))) ≡ true → (fits ps (c ∷ path) ≡ true) ⊎ ((v ≡ false) × (starred ps path ≡ true))) [
      | true ↦ λ g. ⊎_elim (λ e. inl e) (λ e. absurd (cc)) (or_cases _ _ g)
      | false ↦ λ g. ⊎_elim (λ e. inl e) (λ e. inr (refl, e)) (or_cases _ _ g)
    ] h

-- what a part stands for, unless that is the slash alone
abbrev pub StandsApart : (ℕ → Bool) → Type 0
StandsApart stands = (c : ℕ) → stands c ≡ true → is_slash c ≡ false → stands 47 ≡ false

-- a star fits what one part stands for too, unless that is a slash
star_over_one : (stands : ℕ → Bool) (ps : List Part) (path : List ℕ) → stands 47 ≡ false → starred (One stands ∷ ps) path ≡ true → starred ps path ≡ true
star_over_one stands ps [] n h = absurd (cc)
star_over_one stands ps (c ∷ path) n h =
    ⊎_elim
    (λ e.
    let both = and_parts (stands c) (fits ps path) e in
    let apart : is_slash c ≡ false = false_from_ne_true (is_slash c) (λ s. both_ways (stands c) (ap stands (eqb-true c 47 s) ∙ n) both.0) in
    star_more ps c path apart (star_here ps path both.1))
    (λ e. star_more ps c path e.0 (star_over_one stands ps path n e.1))
    (star_cases (One stands ∷ ps) c path h)

-- past a byte that a part stands for, a star fits what a star before it fitted
pub star_past_one : (stands : ℕ → Bool) (ps : List Part) (c : ℕ) (path : List ℕ) → StandsApart stands → stands c ≡ true → starred (One stands ∷ ps) (c ∷ path) ≡ true → starred ps path ≡ true
star_past_one stands ps c path apart here h =
    ⊎_elim
    (λ e. star_here ps path (and_parts (stands c) (fits ps path) e).1)
    (λ e. star_over_one stands ps path (apart c here e.0) e.1)
    (star_cases (One stands ∷ ps) c path h)

-- two stars are one
pub star_star : (ps : List Part) (path : List ℕ) → starred (Star ∷ ps) path ≡ true → starred ps path ≡ true
star_star ps [] h = ⊎_elim (λ e. e) (λ e. absurd (cc)) (or_cases _ _ h)
star_star ps (c ∷ path) h =
    ⊎_elim (λ e. e) (λ e. star_more ps c path e.0 (star_star ps path e.1)) (star_cases (Star ∷ ps) c path h)

-- no part stands for a slash and for another byte
pub stands_apart : (end : Option ℕ) (b : ℕ) (bytes : List ℕ) → StandsApart (stands_for end b bytes)
stands_apart (Some end) b bytes c h n = refl
stands_apart None b bytes c h n =
    elim (b == 63) as (λ v. cond v (not (is_slash c)) (c == b) ≡ true → cond v (not (is_slash 47)) (47 == b) ≡ false) [
      | true ↦ λ g. refl
      | false ↦ λ g. false_from_ne_true (47 == b) (λ s. both_ways (is_slash c) n (ap is_slash (eqb-true c b g ∙ sym (eqb-true 47 b s))))
    ] h

-- whether `X-Y` stands at a place of a bracket
abbrev pub begins_range : List ℕ → ℕ → Bool
begins_range items at = nat_lt (at + 2) (length items) && (get_or items (at + 1) 0 == 45)

-- what a bracket lists from a place on, where a range stands there
pub is_listed-range : (items : List ℕ) (at c : ℕ) → begins_range items at ≡ true
    → is_listed (drop at items) c ≡ ((nat_le (get_or items at 0) c && nat_le c (get_or items (at + 2) 0)) || is_listed (drop (at + 3) items) c)
is_listed-range items at c h =
    let both = and_parts _ _ h in
    let inside : at + 2 < length items = ltb-true _ _ both.0 in
    let first = drop_more items at 0 (omega arith) in
    let second = drop_more items (at + 1) 0 (omega arith) in
    let third = drop_more items (at + 1 + 1) 0 (omega arith) in
    let two : at + 1 + 1 ≡ at + 2 = omega arith in
    let three : at + 2 + 1 ≡ at + 3 = omega arith in
    rw (first, second, third, both.1, two, three) refl

item_or_more : (x : ℕ) (items : List ℕ) (c : ℕ) → (nat_lt 1 (length items) && (get_or items 0 0 == 45)) ≡ false → is_listed (x ∷ items) c ≡ (c == x || is_listed items c)
item_or_more x [] c h = sym (or-false (c == x))
item_or_more x (m ∷ []) c h = refl
item_or_more x (m ∷ y ∷ items) c h =
    ⊎_elim
    (λ e.
    let short : length (m ∷ y ∷ items) ≤ 1 = ltb-false _ _ e in
    absurd (omega arith))
    (λ e. rw e refl)
    (and_cases _ _ h)

-- and where a byte stands for itself
pub is_listed-item : (items : List ℕ) (at c : ℕ) → at < length items → begins_range items at ≡ false
    → is_listed (drop at items) c ≡ (c == get_or items at 0 || is_listed (drop (at + 1) items) c)
is_listed-item items at c inside h =
    let size : nat_lt 1 (length (drop (at + 1) items)) ≡ nat_lt (at + 2) (length items) = grind (arith, nat_tests, length-drop (at + 1) items) in
    let next : get_or (drop (at + 1) items) 0 0 ≡ get_or items (at + 1) 0 = get_or-drop (at + 1) items 0 0 ∙ ap (λ i. get_or items i 0) (omega arith) in
    rw (drop_more items at 0 inside) (item_or_more (get_or items at 0) (drop (at + 1) items) c (rw (size, next) h))

pub ruleset listing = (is_listed-range, ltb-true)

-- where no byte passes, none is first
passed_none : (p : ℕ → Bool) (xs : List ℕ) → list_any p xs ≡ false → length xs ≤ position_or_len p xs
passed_none p [] h = omega arith
passed_none p (x ∷ xs) h =
    let both = or_parts (p x) (list_any p xs) h in
    rw both.0 (omega (arith, passed_none p xs both.1))

-- after the last `]` no bracket begins
pub no_bracket : (pattern : List ℕ) (behind k b : ℕ) → IsBehindCloses behind pattern → behind ≤ k → bracket_end b (drop k pattern) ≡ None
no_bracket pattern behind k b h past =
    let none : list_any is_close (drop k pattern) ≡ false = h k ∙ le-ltb k behind past in
    let ends : position is_close (drop k pattern) ≡ None = rw (le-ltb (position_or_len is_close (drop k pattern)) (length (drop k pattern)) (passed_none is_close (drop k pattern) none)) refl in
    rw ends (elim (b == 91) as (λ v. cond {A = Option ℕ} v None None ≡ None) [ true ↦ refl | false ↦ refl ])

-- a pattern that begins with another byte than a star begins with one part
parts-one : (b : ℕ) (bytes : List ℕ) → b ≢ 42 → parts (b ∷ bytes) ≡ One (stands_for (bracket_end b bytes) b bytes) ∷ parts (drop (bracket_size (bracket_end b bytes)) bytes)
parts-one b bytes other =
    rw (ne_eqb b 42 other) (ap (λ ps. One (stands_for (bracket_end b bytes) b bytes) ∷ ps) (parts_behind-drop (bracket_size (bracket_end b bytes)) bytes))

-- the parts from a place on, where no star stands
parts_from-one : (pattern : List ℕ) (at behind : ℕ) → at < length pattern → get_or pattern at 0 ≢ 42
    → behind ≡ at + 1 + bracket_size (bracket_end (get_or pattern at 0) (drop (at + 1) pattern))
    → parts (drop at pattern) ≡ One (stands_for (bracket_end (get_or pattern at 0) (drop (at + 1) pattern)) (get_or pattern at 0) (drop (at + 1) pattern)) ∷ parts (drop behind pattern)
parts_from-one pattern at behind inside other ends =
    let b = get_or pattern at 0 in
    let bytes = drop (at + 1) pattern in
    let size = bracket_size (bracket_end b bytes) in
    let rest : drop size bytes ≡ drop behind pattern = drop-drop size (at + 1) pattern ∙ ap (λ k. drop k pattern) (omega (arith, ends)) in
    ap parts (drop_more pattern at 0 inside) ∙ parts-one b bytes other ∙ ap (λ xs. One (stands_for (bracket_end b bytes) b bytes) ∷ parts xs) rest

-- from a place on: after a byte that its part stands for
pub fits_from-one : (pattern : List ℕ) (at : ℕ) (path : List ℕ) (place behind : ℕ) → at < length pattern → get_or pattern at 0 ≢ 42 → place < length path
    → PassesPart (get_or pattern at 0) (drop (at + 1) pattern) (get_or path place 0) (at + 1) (length pattern) (Some behind)
    → (fits_from pattern at path place ≡ fits_from pattern behind path (place + 1)) × (star_fits_from pattern at path place ≡ true → star_fits_from pattern behind path (place + 1) ≡ true)
unfolding fits_from star_fits_from
fits_from-one pattern at path place behind inside other inside_path passes =
    let b = get_or pattern at 0 in
    let bytes = drop (at + 1) pattern in
    let c = get_or path place 0 in
    let stands = stands_for (bracket_end b bytes) b bytes in
    let ps = parts_from-one pattern at behind inside other passes.1 in
    let cs = drop_more path place 0 inside_path in
    let stood : stands c ≡ true = passes.0 in
    (rw (ps, cs, stood) refl, rw (ps, cs) (star_past_one stands (parts (drop behind pattern)) c (drop (place + 1) path) (stands_apart (bracket_end b bytes) b bytes) stood))

-- at a byte that its part does not stand for
pub fits_from-other : (pattern : List ℕ) (at : ℕ) (path : List ℕ) (place : ℕ) → at < length pattern → get_or pattern at 0 ≢ 42 → place < length path
    → PassesPart (get_or pattern at 0) (drop (at + 1) pattern) (get_or path place 0) (at + 1) (length pattern) None → fits_from pattern at path place ≡ false
unfolding fits_from
fits_from-other pattern at path place inside other inside_path differs =
    rw (parts_from-one pattern at _ inside other refl, drop_more path place 0 inside_path, differs) refl

-- at the end of the path
pub fits_from-path_end : (pattern : List ℕ) (at : ℕ) (path : List ℕ) (place : ℕ) → at < length pattern → get_or pattern at 0 ≢ 42 → place ≡ length path → fits_from pattern at path place ≡ false
unfolding fits_from
fits_from-path_end pattern at path place inside other end =
    rw (parts_from-one pattern at _ inside other refl, drop_all place path (omega arith)) refl

-- at the end of the pattern
pub fits_from-end : (pattern : List ℕ) (at : ℕ) (path : List ℕ) (place : ℕ) → length pattern ≤ at → place ≡ length path → fits_from pattern at path place ≡ true
unfolding fits_from
fits_from-end pattern at path place past end = rw (drop_all at pattern past, drop_all place path (omega arith)) refl

pub fits_from-more : (pattern : List ℕ) (at : ℕ) (path : List ℕ) (place : ℕ) → length pattern ≤ at → place < length path → fits_from pattern at path place ≡ false
unfolding fits_from
fits_from-more pattern at path place past inside = rw (drop_all at pattern past, drop_more path place 0 inside) refl

-- at a star
pub fits_from-star : (pattern : List ℕ) (at : ℕ) (path : List ℕ) (place : ℕ) → at < length pattern → get_or pattern at 0 ≡ 42
    → (fits_from pattern at path place ≡ star_fits_from pattern (at + 1) path place) × (star_fits_from pattern at path place ≡ true → star_fits_from pattern (at + 1) path place ≡ true)
unfolding fits_from star_fits_from
fits_from-star pattern at path place inside star =
    let first : parts (drop at pattern) ≡ Star ∷ parts (drop (at + 1) pattern) = rw (drop_more pattern at 0 inside, star) refl in
    (rw first refl, rw first (star_star (parts (drop (at + 1) pattern)) (drop place path)))

-- what fits fits after a star too
pub star_fits_from-here : (pattern : List ℕ) (at : ℕ) (path : List ℕ) (place : ℕ) → fits_from pattern at path place ≡ true → star_fits_from pattern at path place ≡ true
unfolding fits_from star_fits_from
star_fits_from-here pattern at path place = star_here (parts (drop at pattern)) (drop place path)

-- a star that cannot go on: at the end of the path, and at a slash
pub star_fits_from-end : (pattern : List ℕ) (at : ℕ) (path : List ℕ) (place : ℕ) → place ≡ length path → fits_from pattern at path place ≡ false → star_fits_from pattern at path place ≡ false
unfolding fits_from star_fits_from
star_fits_from-end pattern at path place end differs =
    let none = drop_all place path (omega arith) in
    rw none (rw (rw none at differs) refl)

pub star_fits_from-slash : (pattern : List ℕ) (at : ℕ) (path : List ℕ) (place : ℕ) → place < length path → get_or path place 0 ≡ 47 → fits_from pattern at path place ≡ false → star_fits_from pattern at path place ≡ false
unfolding fits_from star_fits_from
star_fits_from-slash pattern at path place inside slash differs =
    let more = drop_more path place 0 inside in
    rw more (rw (rw more at differs, slash) refl)

-- a star that takes a byte more
pub star_fits_from-more : (pattern : List ℕ) (at : ℕ) (path : List ℕ) (place : ℕ) → place < length path → get_or path place 0 ≢ 47 → fits_from pattern at path place ≡ false
    → star_fits_from pattern at path place ≡ star_fits_from pattern at path (place + 1)
unfolding fits_from star_fits_from
star_fits_from-more pattern at path place inside other differs =
    let more = drop_more path place 0 inside in
    rw more (rw (rw more at differs, ne_eqb _ _ other) refl)

-- two tests that are true together are one
pub same_from_true : (x y : Bool) → (x ≡ true → y ≡ true) → (y ≡ true → x ≡ true) → x ≡ y
same_from_true true y f g = sym (f refl)
same_from_true false true f g = g refl
same_from_true false false f g = refl

pub ruleset following = (fits_from-other, fits_from-end, fits_from-more, fits_from-path_end)

pub ruleset starring = (star_fits_from-here, star_fits_from-end, star_fits_from-slash, star_fits_from-more)
