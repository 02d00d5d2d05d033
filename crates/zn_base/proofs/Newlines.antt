-- A text that is cut at its newlines, one after another.
use Rattle.std.proofs.Common.{◌≡◌, ◌==◌, ◌+◌, ◌<◌, ◌≤◌, nat_lt, not, suc, ℕ, true, false, cond, List, [], ◌∷◌, ◌++◌, drop, length, take, Some, None, refl, ap, sym, ◌∙◌, subst, append_assoc, arith}
use Rattle.std.proofs.lemmas.List.{append-nil}
use Rattle.std.proofs.lemmas.Bool.Decides.{nat_tests}
use Rattle.std.proofs.lemmas.List.Quantifiers.{position-Some}
use Rattle.std.proofs.lemmas.Option.{cond_some}
use Rattle.std.specs.List.{position, position_or_len}
use Rattle.zn_base.specs.Lines.{is_newline, lines_of, with_first}

-- a newline ends the first line
first_line : (xs : List ℕ) → position_or_len is_newline xs < length xs → lines_of xs ≡ take (position_or_len is_newline xs) xs ∷ lines_of (drop (position_or_len is_newline xs + 1) xs)
first_line [] h = absurd (omega arith)
first_line (x ∷ xs) h =
    elim (is_newline x) as (λ v. cond (not v) (1 + position_or_len is_newline xs) 0 < suc (length xs) → cond v ([] ∷ lines_of xs) (with_first x (lines_of xs)) ≡ take (cond (not v) (1 + position_or_len is_newline xs) 0) (x ∷ xs) ∷ lines_of (drop (cond (not v) (1 + position_or_len is_newline xs) 0 + 1) (x ∷ xs))) [
      | true ↦ λ g. refl
      | false ↦ λ g.
          let n : 1 + position_or_len is_newline xs ≡ suc (position_or_len is_newline xs) = omega arith in
          let m : 1 + position_or_len is_newline xs + 1 ≡ suc (position_or_len is_newline xs + 1) = omega arith in
          rw (m, n) (ap (with_first x) (first_line xs (omega (arith, g))))
    ] h

line_before : (xs : List ℕ) (at : ℕ) → position_or_len is_newline xs ≡ at → at < length xs → lines_of xs ≡ take at xs ∷ lines_of (drop (at + 1) xs)
line_before xs at place inside = subst (λ n. n < length xs → lines_of xs ≡ take n xs ∷ lines_of (drop (n + 1) xs)) place (first_line xs) inside

-- what has no newline is one line
one_line : (b : ℕ) (xs : List ℕ) → length (b ∷ xs) ≤ position_or_len is_newline (b ∷ xs) → lines_of (b ∷ xs) ≡ (b ∷ xs) ∷ []
one_line b [] h =
    elim (is_newline b) as (λ v. 1 ≤ cond (not v) 1 0 → cond v ([] ∷ []) (with_first b []) ≡ (b ∷ []) ∷ []) [
      | true ↦ λ g. absurd (omega arith)
      | false ↦ λ g. refl
    ] h
one_line b (c ∷ xs) h =
    elim (is_newline b) as (λ v. suc (suc (length xs)) ≤ cond (not v) (1 + position_or_len is_newline (c ∷ xs)) 0 → cond v ([] ∷ lines_of (c ∷ xs)) (with_first b (lines_of (c ∷ xs))) ≡ (b ∷ c ∷ xs) ∷ []) [
      | true ↦ λ g. absurd (omega arith)
      | false ↦ λ g. ap (with_first b) (one_line c xs (omega (arith, g)))
    ] h

-- the line before the next newline
pub next_line : (lines new : List (List ℕ)) (text rest behind line : List ℕ) (at : ℕ) → lines ++ lines_of rest ≡ lines_of text → position is_newline rest ≡ Some at
    → line ≡ take at rest → behind ≡ drop (at + 1) rest → new ≡ lines ++ line ∷ [] → new ++ lines_of behind ≡ lines_of text
next_line lines new text rest behind line at h found is gone put =
    let place : position_or_len is_newline rest ≡ at = (cond_some _ _ _ found).1 in
    let inside : at < length rest = (position-Some is_newline rest at 0 found).0 in
    let cut : lines_of rest ≡ take at rest ∷ lines_of (drop (at + 1) rest) = line_before rest at place inside in
    let more : lines ++ take at rest ∷ lines_of (drop (at + 1) rest) ≡ lines_of text = ap (λ l. lines ++ l) (sym cut) ∙ h in
    rw (put, is, gone) (append_assoc lines (take at rest ∷ []) (lines_of (drop (at + 1) rest)) ∙ more)

none_found : (xs : List ℕ) → position is_newline xs ≡ None → length xs ≤ position_or_len is_newline xs
none_found xs h = elim (nat_lt (position_or_len is_newline xs) (length xs)) as (λ b. nat_lt (position_or_len is_newline xs) (length xs) ≡ b → cond b (Some (position_or_len is_newline xs)) None ≡ None → length xs ≤ position_or_len is_newline xs) [
  | true ↦ λ e g. absurd (cc)
  | false ↦ λ e g. grind (arith, nat_tests)
] refl h

-- nothing is left
pub no_line : (lines new : List (List ℕ)) (text rest : List ℕ) → lines ++ lines_of rest ≡ lines_of text → true ≡ (length rest == 0) → new ≡ lines → new ≡ lines_of text
no_line lines new text [] h none same = same ∙ sym (append-nil lines) ∙ h
no_line lines new text (b ∷ rest) h none same = absurd (grind (arith, nat_tests))

-- a last line without a newline is left
pub last_line : (lines new : List (List ℕ)) (text rest line : List ℕ) → lines ++ lines_of rest ≡ lines_of text → position is_newline rest ≡ None → false ≡ (length rest == 0)
    → line ≡ rest → new ≡ lines ++ line ∷ [] → new ≡ lines_of text
last_line lines new text [] line h none some is put = absurd (cc)
last_line lines new text (b ∷ rest) line h none some is put = put ∙ ap (λ l. lines ++ l ∷ []) is ∙ ap (λ l. lines ++ l) (sym (one_line b rest (none_found (b ∷ rest) none))) ∙ h
