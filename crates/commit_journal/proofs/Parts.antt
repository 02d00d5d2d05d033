-- Parts of bodies.
use Rattle.std.proofs.Common.{◌≡◌, ◌<◌, ◌≤◌, ◌+◌, ◌-◌, ◌/◌, ◌%◌, ℕ, zero, suc, List, [], ◌∷◌, ◌++◌, length, length-append, take, get_or, refl, ap, sym, ◌∙◌, arith}
use Rattle.std.proofs.lemmas.List.{take_all, take_more}
use Rattle.commit_journal.specs.Bodies.{padded, HasDigits}
use Rattle.commit_journal.proofs.Lists.{push_no_nil, push_same}

pub padded_none : (n : ℕ) → padded 0 n ≡ []
unfolding padded
padded_none n = refl

-- one digit more than none
pub padded_more : (k n : ℕ) → 0 < k → padded k n ≡ padded (k - 1) (n / 10) ++ (48 + n % 10) ∷ []
unfolding padded
padded_more zero n h = absurd (omega arith)
padded_more (suc k) n h = let e : suc k - 1 ≡ k = omega arith in rw e refl

pub no_digits : (k n : ℕ) (digits : List ℕ) → HasDigits k n → length digits < 1 → digits ≡ padded k n → n ≡ 0
unfolding padded
no_digits zero n digits has short e = has
no_digits (suc k) n digits has short e = let more = length-append (padded k (n / 10)) ((48 + n % 10) ∷ []) in absurd (omega (arith, short, ap length e, more))

-- the last digit and those before it
pub record LastDigit (n last : ℕ) (others : List ℕ) : Type 0 where
  pub fewer : ℕ
  pub has : HasDigits fewer (n / 10)
  pub before : others ≡ padded fewer (n / 10)
  pub digit : last ≡ 48 + n % 10

pub last_digit : (k n last : ℕ) (front : List ℕ) → HasDigits k n → front ++ last ∷ [] ≡ padded k n → LastDigit n last front
unfolding padded
last_digit zero n last front has e = absurd (push_no_nil front last (sym e))
last_digit (suc k) n last front has e = let ends = push_same front (padded k (n / 10)) last (48 + n % 10) e in record { fewer = k; has = has; before = ends.0; digit = ends.1 }

pub last_behind : (xs : List ℕ) → 1 ≤ length xs → take (length xs - 1) xs ++ get_or xs (length xs - 1) 0 ∷ [] ≡ xs
last_behind xs some =
    let all : length xs - 1 + 1 ≡ length xs = omega arith in
    sym (take_more xs (length xs - 1) 0 (omega arith)) ∙ ap (λ (n : ℕ). take n xs) all ∙ take_all (length xs) xs (omega arith)
