-- The last bytes of a list, in several steps.
use Rattle.std.proofs.Common.{◌≡◌, ◌≤◌, ◌+◌, ◌-◌, ◌++◌, ℕ, List, drop, length, ap, sym, arith, ◌∙◌, length-append, length-drop}
use Rattle.std.proofs.lemmas.List.{drop-append-le, drop-drop}
use Rattle.circular_buffer.specs.Buffer.{keep_last}

pub all_kept : (n : ℕ) (xs : List ℕ) → length xs ≤ n → keep_last n xs ≡ xs
all_kept n xs h = let none : length xs - n ≡ 0 = omega arith in ap (λ k. drop k xs) none

pub few_kept : (n : ℕ) (xs : List ℕ) → length (keep_last n xs) ≤ n
few_kept n xs = omega (arith, length-drop (length xs - n) xs)

-- what was dropped before makes no difference
pub kept_again : (n : ℕ) (xs ys : List ℕ) → keep_last n (keep_last n xs ++ ys) ≡ keep_last n (xs ++ ys)
kept_again n xs ys =
    let d : ℕ = length xs - n in
    let inside : d ≤ length xs = omega arith in
    let left = length-drop d xs in
    let long = length-append xs ys in
    let longer = length-append (drop d xs) ys in
    let whole : length (xs ++ ys) - n ≡ d + (length (drop d xs ++ ys) - n) = omega arith in
    ap (λ zs. drop (length (drop d xs ++ ys) - n) zs) (sym (drop-append-le d xs ys inside))
    ∙ (drop-drop (length (drop d xs ++ ys) - n) d (xs ++ ys) ∙ ap (λ k. drop k (xs ++ ys)) (sym whole))
