-- All resources that match are removed from the last place to the first.
use Rattle.std.proofs.Common.{◌≡◌, ℕ, zero, suc, ◌-◌, ◌<◌, ◌≤◌, Bool, true, false, cond, not, List, [], ◌∷◌, Some, length, refl, ap, sym, subst, arith, ◌∙◌}
use Rattle.std.specs.Prelude.{filter, option_map, remove, slice_get, unwrap_or}
use Rattle.config_terms.specs.declared.terms.Kind.{Kind}
use Rattle.config_terms.specs.declared.terms.Resource.{Resource}
use Rattle.config_terms.specs.Edits.{empty}
use Rattle.config_terms.specs.Fields.{resource_shown}
use Rattle.config_terms.specs.Matches.{has_all}
use Rattle.zn_base.specs.declared.values.Pair.{Pair}
use Rattle.zone_config.specs.declared.terms.Contents.{Contents}
use Rattle.zone_config.specs.Kinds.{Row, by_kind}
use Rattle.zone_config.specs.Removal.{matches_at, without_match_at, without_matches, without_place}
use Rattle.zone_config.specs.Resources.{count_of}
use Rattle.zone_config.proofs.Rows.{IsLawful, count_of-row, each_kind, removed-row}

-- a list of which only what stands from a place on was tested
abbrev pub kept : {A : Type 0} → (A → Bool) → ℕ → List A → List A
kept p zero xs = filter p xs
kept p (suc n) [] = []
kept p (suc n) (x ∷ xs) = x ∷ kept p n xs

kept-all : {A : Type 0} (p : A → Bool) (xs : List A) → kept p (length xs) xs ≡ xs
kept-all p [] = refl
kept-all p (x ∷ xs) = ap (λ ys. x ∷ ys) (kept-all p xs)

slice_get-kept : {A : Type 0} (p : A → Bool) (k : ℕ) (xs : List A) → slice_get (kept p (suc k) xs) k ≡ slice_get xs k
slice_get-kept p zero [] = refl
slice_get-kept p zero (x ∷ xs) = refl
slice_get-kept p (suc k) [] = refl
slice_get-kept p (suc k) (x ∷ xs) = slice_get-kept p k xs

less-kept : {A : Type 0} (p : A → Bool) (k : ℕ) (xs : List A) → k < length xs → k < length (kept p (suc k) xs)
less-kept p zero [] h = absurd (omega arith)
less-kept p zero (x ∷ xs) h = omega arith
less-kept p (suc k) [] h = absurd (omega arith)
less-kept p (suc k) (x ∷ xs) h = let rest = less-kept p k xs (omega arith) in omega arith

kept-removed : {A : Type 0} (p : A → Bool) (k : ℕ) (xs : List A) (x : A) → slice_get xs k ≡ Some x → p x ≡ false → remove (kept p (suc k) xs) k ≡ kept p k xs
kept-removed p zero [] x e h = absurd (cc)
kept-removed p zero (y ∷ xs) x e h =
    let same : y ≡ x = cc in
    sym (ap (λ b. cond b (y ∷ filter p xs) (filter p xs)) (ap p same ∙ h))
kept-removed p (suc k) [] x e h = absurd (cc)
kept-removed p (suc k) (y ∷ xs) x e h = ap (λ ys. y ∷ ys) (kept-removed p k xs x e h)

kept-stays : {A : Type 0} (p : A → Bool) (k : ℕ) (xs : List A) (x : A) → slice_get xs k ≡ Some x → p x ≡ true → kept p (suc k) xs ≡ kept p k xs
kept-stays p zero [] x e h = absurd (cc)
kept-stays p zero (y ∷ xs) x e h =
    let same : y ≡ x = cc in
    sym (ap (λ b. cond b (y ∷ filter p xs) (filter p xs)) (ap p same ∙ h))
kept-stays p (suc k) [] x e h = absurd (cc)
kept-stays p (suc k) (y ∷ xs) x e h = ap (λ ys. y ∷ ys) (kept-stays p k xs x e h)

slice_get-Some : {A : Type 0} (xs : List A) (k : ℕ) → k < length xs → (x : A) × (slice_get xs k ≡ Some x)
slice_get-Some [] k h = absurd (omega arith)
slice_get-Some (x ∷ xs) zero h = (x, refl)
slice_get-Some (x ∷ xs) (suc k) h = slice_get-Some xs k (omega arith)

-- whether one of a kind stays
abbrev pub stays : {A : Type 0} → Row A → List Pair → A → Bool
stays row wanted x = not (has_all row.kind wanted (row.shown x))

-- a configuration of which only what stands from a place on was tested
abbrev pub partly : Kind → List Pair → ℕ → Contents → Contents
partly k wanted n c = by_kind k (λ A row. row.put (kept (stays row wanted) n (row.list c)) c)

-- the resource at a place, by the row of its kind
module _ {A : Type 0} (row : Row A) (law : IsLawful row) (wanted : List Pair) (c : Contents) (place : ℕ) (x : A) (at : slice_get (row.list c) place ≡ Some x) where
  matches-row : matches_at row.kind wanted place c ≡ has_all row.kind wanted (row.shown x)
  matches-row =
      ap (λ r. has_all row.kind wanted (resource_shown r))
      (law.known.of_kind Resource (λ B other. unwrap_or (option_map other.make (slice_get (other.list c) place)) (empty other.kind)) ∙ ap (λ o. unwrap_or (option_map row.make o) (empty row.kind)) at)
      ∙ ap (has_all row.kind wanted) (law.known.shown x)

  without-row : without_place row.kind c place ≡ row.put (remove (row.list c) place) c
  without-row =
      ap (λ o. unwrap_or (option_map (λ (r : Resource × Contents). r.1) o) c)
      (removed-row row law c place ∙ ap (option_map (λ y. (row.make y, row.put (remove (row.list c) place) c))) at)

-- one more place tested, none, and the next one, by the row of a kind
module _ (A : Type 0) (row : Row A) (law : IsLawful row) (wanted : List Pair) (c : Contents) where
  abbrev tested_from : ℕ → List A
  tested_from n = kept (stays row wanted) n (row.list c)

  abbrev so_far : ℕ → Contents
  so_far n = row.put (tested_from n) c

  partly-row : (n : ℕ) → partly row.kind wanted n c ≡ so_far n
  partly-row n = law.known.of_kind Contents (λ B other. other.put (kept (stays other wanted) n (other.list c)) c)

  row_tested : (n : ℕ) (x : A) (b : Bool) → slice_get (row.list c) n ≡ Some x → has_all row.kind wanted (row.shown x) ≡ b
      → cond b (row.put (remove (tested_from (suc n)) n) (so_far (suc n))) (so_far (suc n)) ≡ so_far n
  row_tested n x true e h = law.part.again _ _ c ∙ ap (λ xs. row.put xs c) (kept-removed (stays row wanted) n (row.list c) x e (ap not h))
  row_tested n x false e h = ap (λ xs. row.put xs c) (kept-stays (stays row wanted) n (row.list c) x e (ap not h))

  row_partly-step : (n : ℕ) → n < count_of row.kind c → without_match_at row.kind wanted n (partly row.kind wanted (suc n) c) ≡ partly row.kind wanted n c
  row_partly-step n h =
      let counts = count_of-row row law c in
      let at = slice_get-Some (row.list c) n (omega arith) in
      let listed = law.part.listed (tested_from (suc n)) c in
      let there : slice_get (row.list (so_far (suc n))) n ≡ Some at.0 = ap (λ xs. slice_get xs n) listed ∙ slice_get-kept (stays row wanted) n (row.list c) ∙ at.1 in
      ap (without_match_at row.kind wanted n) (partly-row (suc n))
      ∙ ap (λ b. cond b (without_place row.kind (so_far (suc n)) n) (so_far (suc n))) (matches-row row law wanted (so_far (suc n)) n at.0 there)
      ∙ ap (λ d. cond (has_all row.kind wanted (row.shown at.0)) d (so_far (suc n)))
      (without-row row law wanted (so_far (suc n)) n at.0 there ∙ ap (λ xs. row.put (remove xs n) (so_far (suc n))) listed)
      ∙ row_tested n at.0 (has_all row.kind wanted (row.shown at.0)) at.1 refl ∙ sym (partly-row n)

  row_partly-all : partly row.kind wanted (count_of row.kind c) c ≡ c
  row_partly-all =
      ap (λ n. partly row.kind wanted n c) (count_of-row row law c) ∙ partly-row (length (row.list c)) ∙ ap (λ xs. row.put xs c) (kept-all (stays row wanted) (row.list c)) ∙ law.part.unchanged c

  row_partly-count : (n : ℕ) → n < count_of row.kind c → n < count_of row.kind (partly row.kind wanted (suc n) c)
  row_partly-count n h =
      let counts = count_of-row row law c in
      let now = ap (count_of row.kind) (partly-row (suc n)) ∙ count_of-row row law (so_far (suc n)) ∙ ap length (law.part.listed (tested_from (suc n)) c) in
      let less = less-kept (stays row wanted) n (row.list c) (omega arith) in
      omega arith

-- one more place tested
partly-step : (k : Kind) (wanted : List Pair) (n : ℕ) (c : Contents) → n < count_of k c → without_match_at k wanted n (partly k wanted (suc n) c) ≡ partly k wanted n c
partly-step k wanted n c =
    each_kind (λ k. n < count_of k c → without_match_at k wanted n (partly k wanted (suc n) c) ≡ partly k wanted n c) (λ A row law. row_partly-step A row law wanted c n) k

-- no place tested
partly-all : (k : Kind) (wanted : List Pair) (c : Contents) → partly k wanted (count_of k c) c ≡ c
partly-all k wanted c = each_kind (λ k. partly k wanted (count_of k c) c ≡ c) (λ A row law. row_partly-all A row law wanted c) k

-- each place tested
pub partly-none : (k : Kind) (wanted : List Pair) (c : Contents) → partly k wanted 0 c ≡ without_matches k wanted c
partly-none k wanted c = refl

-- the next place is there
partly-count : (k : Kind) (wanted : List Pair) (n : ℕ) (c : Contents) → n < count_of k c → n < count_of k (partly k wanted (suc n) c)
partly-count k wanted n c = each_kind (λ k. n < count_of k c → n < count_of k (partly k wanted (suc n) c)) (λ A row law. row_partly-count A row law wanted c n) k

pub untested_count : (k : Kind) (c contents : Contents) (n : ℕ) → contents ≡ c → n ≡ count_of k contents → n ≡ count_of k c
untested_count k c contents n same counts = counts ∙ ap (count_of k) same

-- before the first place is tested
pub untested : (k : Kind) (wanted : List Pair) (c contents : Contents) (n : ℕ) → contents ≡ c → n ≡ count_of k contents → c ≡ partly k wanted n c
untested k wanted c contents n same counts =
    sym (ap (λ m. partly k wanted m c) (untested_count k c contents n same counts) ∙ partly-all k wanted c)

module _ (k : Kind) (wanted : List Pair) (n : ℕ) (c config : Contents) (left : 0 < n) (inside : n ≤ count_of k c) (tested : config ≡ partly k wanted n c) where
  here : config ≡ partly k wanted (suc (n - 1)) c
  here = let e : n ≡ suc (n - 1) = omega arith in tested ∙ ap (λ m. partly k wanted m c) e

  -- the next place is tested
  pub next_tested : without_match_at k wanted (n - 1) config ≡ partly k wanted (n - 1) c
  next_tested = ap (without_match_at k wanted (n - 1)) here ∙ partly-step k wanted (n - 1) c (omega arith)

  -- the next place is there
  pub next_there : n - 1 < count_of k config
  next_there = let P : Contents → Type 0 = λ d. n - 1 < count_of k d in subst P (sym here) (partly-count k wanted (n - 1) c (omega arith))
