-- What an edit makes of a list.
use Rattle.std.proofs.Common.{◌≡◌, ◌∙◌, ◌+◌, ◌<◌, ◌≤◌, ℕ, suc, Bool, true, false, not, cond, List, [], ◌∷◌, Some, None, length, get_or, refl, ap, sym, arith}
use Rattle.std.specs.Prelude.{count_by, nat_lt, option_and_then, option_map, position, remove}
use Rattle.std.specs.List.{position_or_len}
use Rattle.std.proofs.lemmas.Bool.Decides.{nat_tests}
use Rattle.std.proofs.lemmas.List.Quantifiers.{position-Some}
use Rattle.std.proofs.lemmas.List.Sums.{sum_by-cons, sum_by-remove}
use Rattle.config_terms.specs.Edits.{without_each}
use Rattle.config_terms.specs.Settable.{Lacks}

one_if : Bool → ℕ
one_if b = cond b 1 0

count-cons : {A : Type 0} (p : A → Bool) (x : A) (xs : List A) → count_by p (x ∷ xs) ≡ cond (p x) 1 0 + count_by p xs
count-cons p x xs = sum_by-cons (λ y. cond (p y) 1 0) x xs

-- a list without one item at a place
count-remove : {A : Type 0} (p : A → Bool) (xs : List A) (i : ℕ) (x : A) → i < length xs → x ≡ get_or xs i x → count_by p xs ≡ cond (p x) 1 0 + count_by p (remove xs i)
count-remove p xs i x inside is =
    let sums = sum_by-remove (λ y. cond (p y) 1 0) xs i x inside in
    let same : cond {A = ℕ} (p (get_or xs i x)) 1 0 ≡ cond {A = ℕ} (p x) 1 0 = ap (λ y. cond {A = ℕ} (p y) 1 0) (sym is) in
    omega (arith, sums, same)

-- each item given is taken out once
pub taken_out : {A : Type 0} (same : A → A → Bool) → ((a b : A) → same a b ≡ true → a ≡ b) → (given xs new : List A) → without_each same given xs ≡ Some new
    → (p : A → Bool) → count_by p xs ≡ count_by p given + count_by p new
taken_out same one [] xs new h p = let e : xs ≡ new = cc in ap (count_by p) e ∙ omega arith
taken_out {A = A} same one (g ∷ gs) xs new h p =
    elim (position (same g) xs) as (λ o. position (same g) xs ≡ o → option_and_then (without_each same gs) (option_map (remove xs) o) ≡ Some new → count_by p xs ≡ count_by p (g ∷ gs) + count_by p new) [
      | None ↦ λ e k. absurd (cc)
      | Some i ↦ λ e k.
          let at = position-Some (same g) xs i g e in
          let is : g ≡ get_or xs i g = one g (get_or xs i g) at.1 in
          let more = taken_out same one gs (remove xs i) new k p in
          omega (arith, more, count-remove p xs i g at.0 is, count-cons p g gs)
    ] refl h

none_counted : {A : Type 0} (p : A → Bool) (xs : List A) → length xs ≤ position_or_len p xs → count_by p xs ≡ 0
none_counted p [] h = refl
none_counted p (x ∷ xs) h =
    elim (p x) as (λ b. p x ≡ b → suc (length xs) ≤ cond (not b) (1 + position_or_len p xs) 0 → count_by p (x ∷ xs) ≡ 0) [
      | true ↦ λ e k. absurd (omega (arith, k))
      | false ↦ λ e k.
          let none : cond {A = ℕ} (p x) 1 0 ≡ 0 = ap (λ b. cond {A = ℕ} b 1 0) e in
          let rest : count_by p xs ≡ 0 = none_counted p xs (omega (arith, k)) in
          omega (arith, none, rest, count-cons p x xs)
    ] refl h

not_found : {A : Type 0} (p : A → Bool) (xs : List A) → position p xs ≡ None → count_by p xs ≡ 0
not_found p xs h =
    none_counted p xs (elim (nat_lt (position_or_len p xs) (length xs)) as (λ b. nat_lt (position_or_len p xs) (length xs) ≡ b → cond b (Some (position_or_len p xs)) None ≡ None → length xs ≤ position_or_len p xs) [
      | true ↦ λ e g. absurd (cc)
      | false ↦ λ e g. grind (arith, nat_tests)
    ] refl h)

-- where not all can be taken out, some item is given more often than it is there
pub lacks : {A : Type 0} (same : A → A → Bool) → ((a b : A) → same a b ≡ true → a ≡ b) → ((a : A) → same a a ≡ true) → (given xs : List A)
    → without_each same given xs ≡ None → Lacks given xs
lacks same one own [] xs h = absurd (cc)
lacks {A = A} same one own (g ∷ gs) xs h =
    elim (position (same g) xs) as (λ o. position (same g) xs ≡ o → option_and_then (without_each same gs) (option_map (remove xs) o) ≡ None → Lacks (g ∷ gs) xs) [
      | None ↦ λ e k.
          let none = not_found (same g) xs e in
          let here : cond {A = ℕ} (same g g) 1 0 ≡ 1 = ap (λ b. cond {A = ℕ} b 1 0) (own g) in
          record { test = same g; fewer = omega (arith, none, here, count-cons (same g) g gs) }
      | Some i ↦ λ e k.
          let at = position-Some (same g) xs i g e in
          let is : g ≡ get_or xs i g = one g (get_or xs i g) at.1 in
          let more = lacks same one own gs (remove xs i) k in
          record { test = more.test; fewer = omega (arith, more.fewer, count-remove more.test xs i g at.0 is, count-cons more.test g gs) }
    ] refl h
