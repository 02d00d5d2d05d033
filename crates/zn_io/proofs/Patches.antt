-- Bytes put over a stretched disk.
use Rattle.std.proofs.Common.{◌≡◌, ℕ, ◌+◌, ◌-◌, List, ◌++◌, length, take, drop, ◌∙◌, ap, rules, arith, length-append, length-drop, length-take}
use Rattle.std.specs.Prelude.{replicate}
use Rattle.std.proofs.lemmas.List.{append-nil, drop_all, take_all, places, same_lists, length-replicate}
use Rattle.zn_io.specs.Disk.{patched}

patched-stretched : (old bytes : List ℕ) (at n : ℕ) → n ≡ length bytes → (s : List ℕ) → s ≡ old ++ replicate (at + n - length old) 0 → take at s ++ bytes ++ drop (at + n) s ≡ patched old at bytes
patched-stretched old bytes at n is s e = rw (e, is) (same_lists _ _ (search (rules, places)) (λ k d h. grind (arith, places)))

-- a slice of all, written back
pub put_back : (old stretched now wrote bytes : List ℕ) (at n len : ℕ) → n ≡ length bytes → stretched ≡ old ++ replicate (at + n - length old) 0 → now ≡ stretched → length now ≡ len
    → wrote ≡ take at now ++ bytes ++ drop (at + n) now → take len (wrote ++ drop (length wrote) stretched) ≡ patched old at bytes
put_back old stretched now wrote bytes at n len is s same whole w =
    let long : length stretched ≡ length old + (at + n - length old) = ap length s ∙ length-append old _ ∙ ap (λ (k : ℕ). length old + k) (length-replicate {A = ℕ} (at + n - length old) 0) in
    let l : length now ≡ length stretched = ap length same in
    let lw : length wrote ≡ length stretched = omega (arith, ap length w, length-append (take at now ++ bytes) (drop (at + n) now), length-append (take at now) bytes, length-take at now, length-drop (at + n) now) in
    ap (λ (t : List ℕ). take len (wrote ++ t)) (drop_all (length wrote) stretched (omega arith)) ∙ ap (λ (t : List ℕ). take len t) (append-nil wrote) ∙ take_all len wrote (omega arith)
    ∙ w ∙ patched-stretched old bytes at n is now (same ∙ s)
