-- Bytes are cut at the first of a value, which those before it lack.
use Rattle.std.proofs.Common.{◌≡◌, inl, inr, ℕ, Bool, true, false, not, nat_lt, List, [], ◌∷◌, ◌++◌, length, length-append, Some, None, refl, sym, ap, ◌∙◌, arith, true≢false}
use Rattle.std.specs.Prelude.{◌==◌, position}
use Rattle.std.specs.List.{list_all, position_or_len}
use Rattle.std.proofs.lemmas.Bool.{and_parts, cases_eq}
use Rattle.std.proofs.lemmas.Bool.Decides.{nat_tests}
use Rattle.std.proofs.lemmas.List.{take_at}
use Rattle.std.proofs.lemmas.List.Folds.{list_all-append}
use Rattle.std.proofs.Math.Seq.{drop-append-add}
use Rattle.zn_base.specs.Cuts.{after_byte, before_byte, lacks}

other_byte : (p : ℕ → Bool) (c b : ℕ) → p c ≡ false → p b ≡ true → (b == c) ≡ false
other_byte p c b fails passes = elim (cases_eq b c) [
  | inl same ↦ absurd (true≢false (sym passes ∙ ap p same ∙ fails))
  | inr other ↦ grind (arith, nat_tests)
]

-- bytes that all pass a test lack one that fails it
pub lacks_by : (p : ℕ → Bool) (c : ℕ) → p c ≡ false → (bytes : List ℕ) → list_all p bytes ≡ true → lacks c bytes ≡ true
lacks_by p c fails [] all = refl
lacks_by p c fails (b ∷ bytes) all =
    let parts = and_parts (p b) (list_all p bytes) all in
    rw (other_byte p c b fails parts.0, lacks_by p c fails bytes parts.1) refl

pub lacks-append : (c : ℕ) (xs ys : List ℕ) → lacks c xs ≡ true → lacks c ys ≡ true → lacks c (xs ++ ys) ≡ true
lacks-append c xs ys f g = list_all-append (λ b. not (b == c)) xs ys ∙ (rw (f, g) refl)

same_byte : (c : ℕ) → (c == c) ≡ true
same_byte c = grind (arith, nat_tests)

reached : (c : ℕ) (xs ys : List ℕ) → lacks c xs ≡ true → position_or_len (λ b. b == c) (xs ++ c ∷ ys) ≡ length xs
reached c [] ys f = rw (same_byte c) refl
reached c (x ∷ xs) ys f =
    let parts = and_parts (not (x == c)) (lacks c xs) f in
    rw (parts.0, reached c xs ys parts.1) (omega arith)

first_behind : (c : ℕ) (xs ys : List ℕ) → lacks c xs ≡ true → position (λ b. b == c) (xs ++ c ∷ ys) ≡ Some (length xs)
first_behind c xs ys f =
    let inside : nat_lt (length xs) (length (xs ++ c ∷ ys)) ≡ true = let more = length-append xs (c ∷ ys) in grind (arith, nat_tests) in
    rw (reached c xs ys f, inside) refl

-- the first such byte stands after the bytes that lack it
pub place_found : (c : ℕ) (bytes xs ys : List ℕ) → lacks c xs ≡ true → bytes ≡ xs ++ c ∷ ys → None ≡ position (λ b. b == c) bytes → ⊥
place_found c bytes xs ys f is none = let at : position (λ b. b == c) bytes ≡ Some (length xs) = rw is (first_behind c xs ys f) in cc

pub place_is : (c : ℕ) (bytes xs ys : List ℕ) (end : ℕ) → lacks c xs ≡ true → bytes ≡ xs ++ c ∷ ys → Some end ≡ position (λ b. b == c) bytes → end ≡ length xs
place_is c bytes xs ys end f is found = let at : position (λ b. b == c) bytes ≡ Some (length xs) = rw is (first_behind c xs ys f) in cc

-- what stands before it and after it
pub before_first : (c : ℕ) (bytes xs ys : List ℕ) → lacks c xs ≡ true → bytes ≡ xs ++ c ∷ ys → before_byte c bytes ≡ xs
before_first c bytes xs ys f is = rw (is, first_behind c xs ys f) (take_at xs (c ∷ ys) (length xs) refl)

pub after_first : (c : ℕ) (bytes xs ys : List ℕ) → lacks c xs ≡ true → bytes ≡ xs ++ c ∷ ys → after_byte c bytes ≡ Some ys
after_first c bytes xs ys f is = rw (is, first_behind c xs ys f) (ap Some (drop-append-add xs (c ∷ ys) 1))

same_some : {X : Type 0} (a b : X) → Some a ≡ Some b → a ≡ b
same_some a b e = cc

-- two texts that begin with bytes without such a byte and then have it are cut alike
pub cut_alike : (c : ℕ) (xs ys xs' ys' : List ℕ) → lacks c xs ≡ true → lacks c xs' ≡ true → xs ++ c ∷ ys ≡ xs' ++ c ∷ ys' → (xs ≡ xs') × (ys ≡ ys')
cut_alike c xs ys xs' ys' f f' same = (
  sym (before_first c (xs ++ c ∷ ys) xs ys f refl) ∙ before_first c (xs ++ c ∷ ys) xs' ys' f' same,
  same_some ys ys' (sym (after_first c (xs ++ c ∷ ys) xs ys f refl) ∙ after_first c (xs ++ c ∷ ys) xs' ys' f' same),
)
