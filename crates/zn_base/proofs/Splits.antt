-- The first part of a list that is cut where a test passes.
use Rattle.std.proofs.Common.{◌≡◌, ◌+◌, ◌<◌, ◌≤◌, nat_lt, not, ℕ, Bool, Some, None, true, false, cond, List, [], ◌∷◌, length, take, drop, refl, ap, arith}
use Rattle.zn_base.specs.Path.{is_slash, is_component, first_bad}
use Rattle.std.proofs.lemmas.List.{length-take-le}
use Rattle.std.specs.List.{position, position_or_len, slice_split, onto_first}
use Rattle.std.proofs.lemmas.Bool.Decides.{nat_tests}
use Rattle.std.proofs.lemmas.Option.{cond_some}
use Rattle.std.proofs.lemmas.List.Quantifiers.{position-Some}
use Rattle.std.proofs.lemmas.List.Splits.{slice_split_first}

pub split_some : (p : ℕ → Bool) (xs : List ℕ) (i : ℕ) → position p xs ≡ Some i → (i < length xs) × (slice_split p xs ≡ take i xs ∷ slice_split p (drop (i + 1) xs))
split_some p xs i h =
    let at = position-Some p xs i 0 h in
    let e : position_or_len p xs ≡ i = (cond_some _ _ _ h).1 in
    let inside : position_or_len p xs < length xs = rw e at.0 in
    (at.0, rw e at (slice_split_first p xs 0 inside))

-- a list in which no element passes is the one part
split_whole : (p : ℕ → Bool) (xs : List ℕ) → length xs ≤ position_or_len p xs → slice_split p xs ≡ xs ∷ []
split_whole p [] h = refl
split_whole p (x ∷ xs) h =
    elim (p x) as (λ b. length (x ∷ xs) ≤ cond (not b) (1 + position_or_len p xs) 0 → cond b ([] ∷ slice_split p xs) (onto_first x (slice_split p xs)) ≡ (x ∷ xs) ∷ []) [
      | true ↦ λ g. absurd (omega arith)
      | false ↦ λ g. ap (onto_first x) (split_whole p xs (omega arith))
    ] h

pub split_none : (p : ℕ → Bool) (xs : List ℕ) → position p xs ≡ None → slice_split p xs ≡ xs ∷ []
split_none p xs h = split_whole p xs (elim (nat_lt (position_or_len p xs) (length xs)) as (λ b. nat_lt (position_or_len p xs) (length xs) ≡ b → cond b (Some (position_or_len p xs)) None ≡ None → length xs ≤ position_or_len p xs) [
  | true ↦ λ e g. absurd (cc)
  | false ↦ λ e g. grind (arith, nat_tests)
] refl h)

-- past a good component the search goes on after its slash
pub first_bad_more : (place at : ℕ) (xs : List ℕ) → position is_slash xs ≡ Some at → is_component (take at xs) ≡ true → first_bad (place + (at + 1)) (slice_split is_slash (drop (at + 1) xs)) ≡ first_bad place (slice_split is_slash xs)
first_bad_more place at xs h good =
    let cut = split_some is_slash xs at h in
    let len : length (take at xs) ≡ at = length-take-le at xs (omega (arith, cut.0)) in
    let e : place + (at + 1) ≡ place + length (take at xs) + 1 = omega arith in
    rw (cut.1, good) (ap (λ n. first_bad n (slice_split is_slash (drop (at + 1) xs))) e)

-- a bad component stands where it begins
pub first_bad_here : (place at : ℕ) (xs : List ℕ) → position is_slash xs ≡ Some at → is_component (take at xs) ≡ false → Some place ≡ first_bad place (slice_split is_slash xs)
first_bad_here place at xs h bad = rw ((split_some is_slash xs at h).1, bad) refl
