-- Tests of two, and of numbers.
use Rattle.std.proofs.Common.{◌≡◌, ◌≢◌, ℕ, ◌<◌, ◌==◌, ◌&&◌, Bool, true, false, sym, refl, ap, ◌∙◌, arith}
use Rattle.std.proofs.lemmas.Bool.Decides.{nat_tests}

pub differ : (a b : ℕ) → a < b → a ≡ b → ⊥
differ a b l e = omega arith

pub apart : true ≡ false → ⊥
apart e = differ 0 1 (omega arith) (sym (ap flag e))
  where
    flag : Bool → ℕ
    flag false = 0
    flag true = 1

pub both : (a b : Bool) → a ≡ true → b ≡ true → (a && b) ≡ true
both true b p q = q
both false b p q = p

pub both_left : (a b : Bool) → (a && b) ≡ true → a ≡ true
both_left true b p = refl
both_left false b p = p

pub both_right : (a b : Bool) → (a && b) ≡ true → b ≡ true
both_right true b p = p
both_right false b p = absurd (apart (sym p))

pub is_same : (a b : ℕ) → a ≡ b → (a == b) ≡ true
is_same a b e = grind (arith, nat_tests)

pub are_same : (a b : ℕ) → (a == b) ≡ true → a ≡ b
are_same a b e = grind (arith, nat_tests)

pub no_same : (a b : ℕ) → a ≢ b → (a == b) ≡ false
no_same a b e = grind (arith, nat_tests)

pub are_apart : (a b : ℕ) → (a == b) ≡ false → a ≢ b
are_apart a b e same = apart (sym (is_same a b same) ∙ e)
