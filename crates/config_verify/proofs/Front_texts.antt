-- The front of a text is a text.
use Rattle.std.proofs.Common.{◌≡◌, ◌≤◌, ◌∷◌, [], ℕ, zero, suc, Bool, List, true, false, not, nat_lt, length, take, refl, arith}
use Rattle.std.specs.List.{position_or_len}
use Rattle.std.proofs.lemmas.List.{length-take}
use Rattle.std.proofs.lemmas.Bool.{false≢true, ltb-false, le-ltb}
use Rattle.zn_base.specs.Text.{is_text, is_text_byte}

abbrev is_bad : ℕ → Bool
is_bad b = not (is_text_byte b)

-- no byte of it is bad, and it is no longer
good_front : (xs : List ℕ) (k : ℕ) → length xs ≤ position_or_len is_bad xs → length (take k xs) ≤ position_or_len is_bad (take k xs)
good_front xs zero h = omega arith
good_front [] (suc k) h = omega arith
good_front (x ∷ xs) (suc k) h = at_byte (good_front xs k) (is_text_byte x) refl
  where
    at_byte : (length xs ≤ position_or_len is_bad xs → length (take k xs) ≤ position_or_len is_bad (take k xs)) → (b : Bool) → is_text_byte x ≡ b
        → length (take (suc k) (x ∷ xs)) ≤ position_or_len is_bad (take (suc k) (x ∷ xs))
    at_byte ih true e = let all = simp e at h in let front = ih (omega (arith, all)) in simp e (omega (arith, front))
    at_byte ih false e = let none = simp e at h in omega (arith, none)

pub front_text : (xs : List ℕ) (k : ℕ) → is_text xs ≡ true → is_text (take k xs) ≡ true
front_text xs k h = at_bad (nat_lt (position_or_len is_bad xs) (length xs)) refl
  where
    at_length : length xs ≤ position_or_len is_bad xs → (b : Bool) → nat_lt 4200 (length xs) ≡ b → nat_lt (position_or_len is_bad xs) (length xs) ≡ false → is_text (take k xs) ≡ true
    at_length good true e n = absurd (false≢true (simp (n, e) at h))
    at_length good false e n =
        let fits = ltb-false 4200 (length xs) e in
        let short = length-take k xs in
        rw (le-ltb (position_or_len is_bad (take k xs)) (length (take k xs)) (good_front xs k good), le-ltb 4200 (length (take k xs)) (omega (arith, fits, short))) refl

    at_bad : (b : Bool) → nat_lt (position_or_len is_bad xs) (length xs) ≡ b → is_text (take k xs) ≡ true
    at_bad true e = absurd (false≢true (simp e at h))
    at_bad false e = at_length (ltb-false (position_or_len is_bad xs) (length xs) e) (nat_lt 4200 (length xs)) refl e
