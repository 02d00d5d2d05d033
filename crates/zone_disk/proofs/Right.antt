-- Which bytes may stand in a header.
use Rattle.std.proofs.Common.{◌≡◌, ◌≢◌, inl, inr, ℕ, zero, suc, ◌<◌, ◌-◌, List, [], ◌∷◌, get_or, take, refl, arith}
use Rattle.std.specs.Prelude.{true, false, nat_le, ◌==◌}
use Rattle.std.proofs.lemmas.Bool.{cases_eq}
use Rattle.std.proofs.lemmas.Bool.Decides.{nat_tests}
use Rattle.std.proofs.lemmas.List.{get_or-set_other, get_or_append_left}
use Rattle.zone_disk.specs.Image.{header, may_stand}

-- a header's bytes are the same for every selector, but for the selector
pub header_at : (selector k : ℕ) → k ≢ 9 → get_or (header selector) k 0 ≡ get_or (header 65) k 0
header_at selector k other = get_or-set_other (header 65) 9 k selector 0 other

pub fixed_at : (k byte : ℕ) → k < 16 → k ≢ 9 → may_stand k byte ≡ true → byte ≡ get_or (header 65) k 0
fixed_at k byte lt other may = grind (arith, nat_tests)

may_at : (k byte : ℕ) → k < 16 → k ≢ 9 → byte ≡ get_or (header 65) k 0 → may_stand k byte ≡ true
may_at k byte lt other is = grind (arith, nat_tests)

may_select : (s : ℕ) → s ≢ 66 → may_stand 9 s ≡ true
may_select s bank = grind (arith, nat_tests)

pub header_may : (s k : ℕ) → k < 16 → s ≢ 66 → may_stand k (get_or (header s) k 0) ≡ true
header_may s k lt bank = elim (cases_eq k 9) [
  | inl nine ↦ rw nine (may_select s bank)
  | inr other ↦ may_at k (get_or (header s) k 0) lt other (header_at s k other)
]

abbrev tail : List ℕ
tail = 90 ∷ 78 ∷ 83 ∷ 84 ∷ 79 ∷ 82 ∷ 69 ∷ 49 ∷ 65 ∷ 0 ∷ 0 ∷ 0 ∷ 0 ∷ 0 ∷ 0 ∷ 0 ∷ []

-- after the head gate
tail_at : (k : ℕ) → 0 < k → k < 16 → get_or tail (k - 1) 0 ≡ get_or (header 65) k 0
tail_at zero more less = absurd (omega arith)
tail_at (suc k) more less =
    let e : suc k - 1 ≡ k = omega arith in
    rw e (get_or_append_left (take 15 tail) (0 ∷ []) 0 k (omega arith))

pub may_behind : (k byte : ℕ) → 0 < k → k < 16 → k ≢ 9 → (byte == get_or tail (k - 1) 0) ≡ may_stand k byte
may_behind k byte more less other =
    let here : nat_le 16 k ≡ false = grind (arith, nat_tests) in
    let there : (k == 9) ≡ false = grind (arith, nat_tests) in
    rw (here, there, tail_at k more less) refl
