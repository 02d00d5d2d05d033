-- The places of zones in their list.
use Rattle.std.proofs.Common.{◌≡◌, ◌∷◌, [], ℕ, zero, suc, ◌+◌, ◌-◌, ◌<◌, ◌≤◌, List, Some, true, false, ap, arith, drop, nat_eq, refl, ◌∙◌}
use Rattle.std.specs.Prelude.{bytes_eq, length, slice_get, slice_index_or, if◌then◌else◌}
use Rattle.std.proofs.lemmas.Bool.{eq-eqb, eqb-true, false_from_ne_true}
use Rattle.zn_base.specs.Names.{Name}
use Rattle.session_records.specs.Places.{place_from, zone_at, zone_from}

pub zone-got : (n : ℕ) (zones : List Name) (i : ℕ) (z : Name) → slice_get zones i ≡ Some z → zone_from n zones (n + i) ≡ Some z
zone-got n [] i z is = absurd (cc)
zone-got n (y ∷ ys) zero z is =
    let here : nat_eq n (n + 0) ≡ true = eq-eqb n (n + 0) (omega arith) in
    let same : zone_from n (y ∷ ys) (n + 0) ≡ Some y = rw here refl in
    same ∙ is
zone-got n (y ∷ ys) (suc i) z is =
    let other : nat_eq n (n + suc i) ≡ false = false_from_ne_true (nat_eq n (n + suc i)) (λ t. let same = eqb-true n (n + suc i) t in absurd (omega (arith, same))) in
    let there : zone_from n (y ∷ ys) (n + suc i) ≡ zone_from (n + 1) ys (n + suc i) = rw other refl in
    let next : n + suc i ≡ (n + 1) + i = omega arith in
    there ∙ (ap (zone_from (n + 1) ys) next ∙ zone-got (n + 1) ys i z is)

zone-there : (zones : List Name) (p : ℕ) (z : Name) → 2 ≤ p → slice_get zones (p - 2) ≡ Some z → zone_at zones p ≡ Some z
zone-there zones p z some is = let same : p ≡ 2 + (p - 2) = omega (arith, some) in ap (zone_at zones) same ∙ zone-got 2 zones (p - 2) z is

there-got : (zones : List Name) (i : ℕ) (d z : Name) → i < length zones → slice_index_or zones i d ≡ z → slice_get zones i ≡ Some z
there-got [] i d z near is = absurd (omega arith)
there-got (y ∷ ys) zero d z near is = ap Some is
there-got (y ∷ ys) (suc i) d z near is = there-got ys i d z (omega arith) is

pub zone-at : (zones : List Name) (p : ℕ) (d z : Name) → 2 ≤ p → p - 2 < length zones → slice_index_or zones (p - 2) d ≡ z → zone_at zones p ≡ Some z
zone-at zones p d z some near is = zone-there zones p z some (there-got zones (p - 2) d z near is)

drop-next : (zones : List Name) (i : ℕ) (x : Name) → slice_get zones i ≡ Some x → drop i zones ≡ x ∷ drop (i + 1) zones
drop-next [] i x is = absurd (cc)
drop-next (y ∷ ys) zero x is = let same : y ≡ x = cc in ap (λ k. k ∷ ys) same
drop-next (y ∷ ys) (suc i) x is = let next : suc i + 1 ≡ suc (i + 1) = omega arith in rw next (drop-next ys i x is)

-- the place of a zone that isn't among the first ones
pub place-next : (zones : List Name) (i : ℕ) (x z : Name) → slice_get zones i ≡ Some x → place_from (i + 2) (drop i zones) z ≡ (if bytes_eq x z then i + 2 else place_from (i + 1 + 2) (drop (i + 1) zones) z)
place-next zones i x z is =
    let more : i + 2 + 1 ≡ i + 1 + 2 = omega arith in
    ap (λ l. place_from (i + 2) l z) (drop-next zones i x is) ∙ ap (λ n. if bytes_eq x z then i + 2 else place_from n (drop (i + 1) zones) z) more
