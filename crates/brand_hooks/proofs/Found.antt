-- Where no two brands have one name, each is found by its name.
use Rattle.std.proofs.Common.{◌≡◌, ◌<◌, ◌+◌, ℕ, zero, suc, Bool, true, false, cond, List, [], ◌∷◌, length, get_or, take, Some, None, refl, sym, ◌∙◌, arith}
use Rattle.std.specs.Prelude.{bytes_eq, find}
use Rattle.std.specs.List.{list_any, range_with_len}
use Rattle.std.proofs.lemmas.List.{get_or-map, length-map}
use Rattle.std.proofs.lemmas.List.FromFn.{get_or-range_with_len, length-range_with_len}
use Rattle.std.proofs.lemmas.Slice.Eq.{bytes_eq-Decides}
use Rattle.brand_hooks.specs.Brands.{Hooked, brand_named, first_again, is_again, names_of}

pub none_passes : {X : Type 0} (test : X → Bool) (xs : List X) (k : ℕ) (d : X) → find test xs ≡ None → k < length xs → test (get_or xs k d) ≡ false
none_passes test [] k d h within = absurd (omega arith)
none_passes test (x ∷ xs) zero d h within = elim (test x) as (λ v. cond v (Some x) (find test xs) ≡ None → v ≡ false) [ true ↦ λ e. absurd (cc) | false ↦ λ e. refl ] h
none_passes test (x ∷ xs) (suc k) d h within =
    none_passes test xs k d (elim (test x) as (λ v. cond v (Some x) (find test xs) ≡ None → find test xs ≡ None) [ true ↦ λ e. absurd (cc) | false ↦ λ e. e ] h) (omega arith)

found_at : {F : Type 0} (name : List ℕ) (brands : List (Hooked F)) (k : ℕ) (d : Hooked F) → (get_or brands k d).name ≡ name → k < length brands
    → list_any (bytes_eq name) (take k (names_of brands)) ≡ false → brand_named name brands ≡ Some (get_or brands k d)
found_at name [] k d same within before = absurd (omega arith)
found_at name (b ∷ brands) zero d same within before = rw ((bytes_eq-Decides name b.name).1 (sym same)) refl
found_at name (b ∷ brands) (suc k) d same within before =
    let parts : (bytes_eq name b.name ≡ false) × (list_any (bytes_eq name) (take k (names_of brands)) ≡ false) = grind (arith) in
    rw parts.0 (found_at name brands k d same (omega arith) parts.1)

pub found_by_name : {F : Type 0} (brands : List (Hooked F)) (k : ℕ) (d : Hooked F) → first_again (names_of brands) ≡ None → k < length brands
    → brand_named (get_or brands k d).name brands ≡ Some (get_or brands k d)
found_by_name brands k d none within =
    let names = names_of brands in
    let many : length names ≡ length brands = length-map brands (λ b. b.name) in
    let counted : length (range_with_len 0 (length names)) ≡ length names = length-range_with_len 0 (length names) in
    let from_zero : 0 + k ≡ k = omega arith in
    let at : get_or (range_with_len 0 (length names)) k 0 ≡ k = get_or-range_with_len 0 (length names) k 0 (omega arith) ∙ from_zero in
    let fresh : is_again names (get_or (range_with_len 0 (length names)) k 0) ≡ false = none_passes (is_again names) (range_with_len 0 (length names)) k 0 none (omega arith) in
    let fresh : is_again names k ≡ false = rw at at fresh in
    let own : get_or names k [] ≡ (get_or brands k d).name = get_or-map (λ b. b.name) brands k d [] within in
    found_at (get_or brands k d).name brands k d refl within (rw own at fresh)
