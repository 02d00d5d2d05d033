-- What sessions do, after what some did ended.
use Rattle.std.proofs.Common.{◌≡◌, ◌+◌, ◌∷◌, [], zero, suc, not, ◌||◌, ℕ, Bool, List, Option, Some, None, true, false, filter, take, refl, ap, sym, subst, arith, ◌∙◌}
use Rattle.std.specs.Prelude.{is_some, nat_eq, slice_get, if◌then◌else◌}
use Rattle.std.specs.Cmp.{nat_eq_equiv}
use Rattle.std.specs.List.{AllByRecursion, IsDistinct, list_any}
use Rattle.std.specs.Map.{keys_of, lookup}
use Rattle.std.proofs.lemmas.Bool.{eqb-true}
use Rattle.std.proofs.lemmas.Map.Entries.{lookup-filter-values, option_filter}
use Rattle.std.proofs.lemmas.Map.Keys.{IsDistinct-head, IsDistinct-tail}
use Rattle.zone_cases.specs.Code.Doings.{ends_there, ends_with, is_ended, unless_ended}
use Rattle.zone_cases.specs.declared.session.doings.Doing.{Doing}
use Rattle.zone_cases.specs.declared.session.doings.Ended.{Ended}

-- whether what a session does ends, by the pairs of some sessions and what they do
abbrev pub ends_in : Ended → ℕ → List (ℕ × Doing) → Bool
ends_in t k es = list_any (λ e. ends_there t k (Some e)) es

-- one pair more
in-next : (t : Ended) (k : ℕ) (es : List (ℕ × Doing)) (i : ℕ) → ends_in t k (take (suc i) es) ≡ (ends_in t k (take i es) || ends_there t k (slice_get es i))
in-next t k [] zero = refl
in-next t k [] (suc i) = refl
in-next t k (e ∷ es) zero = or_false (ends_there t k (Some e))
  where
    or_false : (b : Bool) → (b || false) ≡ b
    or_false true = refl
    or_false false = refl
in-next t k (e ∷ es) (suc i) = ap (λ b. ends_there t k (Some e) || b) (in-next t k es i) ∙ or_assoc (ends_there t k (Some e)) (ends_in t k (take i es)) (ends_there t k (slice_get es i))
  where
    or_assoc : (a b c : Bool) → (a || (b || c)) ≡ ((a || b) || c)
    or_assoc true b c = refl
    or_assoc false b c = refl

pub in-more : (t : Ended) (k : ℕ) (es : List (ℕ × Doing)) (i : ℕ) → ends_in t k (take (i + 1) es) ≡ (ends_in t k (take i es) || ends_there t k (slice_get es i))
in-more t k es i = let next : i + 1 ≡ suc i = omega arith in rw next (in-next t k es i)

-- what nobody holds stays so, one after another
pub ends_more : {A : Type 0} (new cur old : Option A) (a b : Bool) → new ≡ (if b then None else cur) → cur ≡ (if a then None else old) → new ≡ (if a || b then None else old)
ends_more new cur old true true h e = h
ends_more new cur old true false h e = h ∙ e
ends_more new cur old false true h e = h
ends_more new cur old false false h e = h ∙ e

-- all pairs: each session is there once
in-none : (t : Ended) (k : ℕ) (es : List (ℕ × Doing)) → AllByRecursion (λ y. nat_eq k y ≡ false) (keys_of es) → ends_in t k es ≡ false
in-none t k [] h = refl
in-none t k (e ∷ es) h = let other : nat_eq e.0 k ≡ false = nat_eq_equiv.symm e.0 k ∙ h.0 in simp (other, in-none t k es h.1)

pub in-all : (t : Ended) (k : ℕ) (es : List (ℕ × Doing)) → IsDistinct nat_eq (keys_of es) → ends_in t k es ≡ is_ended t (lookup (nat_eq k) es)
in-all t k [] d = refl
in-all t k (e ∷ es) d = at_head (in-all t k es (IsDistinct-tail nat_eq e.0 (keys_of es) d)) (nat_eq k e.0) refl
  where
    or_false : (b : Bool) → (b || false) ≡ b
    or_false true = refl
    or_false false = refl

    at_head : ends_in t k es ≡ is_ended t (lookup (nat_eq k) es) → (b : Bool) → nat_eq k e.0 ≡ b → ends_in t k (e ∷ es) ≡ is_ended t (lookup (nat_eq k) (e ∷ es))
    at_head ih true f =
        let here : nat_eq e.0 k ≡ true = nat_eq_equiv.symm e.0 k ∙ f in
        let rest : ends_in t k es ≡ false = in-none t k es (subst (λ m. AllByRecursion (λ y. nat_eq m y ≡ false) (keys_of es)) (sym (eqb-true k e.0 f)) (IsDistinct-head nat_eq e.0 (keys_of es) d)) in
        simp (here, f, rest) (or_false (ends_with t e.1))
    at_head ih false f =
        let there : nat_eq e.0 k ≡ false = nat_eq_equiv.symm e.0 k ∙ f in
        simp (there, f) ih

-- those stay of whom nothing ends
pub lookup-kept : (t : Ended) (k : ℕ) (es : List (ℕ × Doing)) → IsDistinct nat_eq (keys_of es) → lookup (nat_eq k) (filter (λ e. not (ends_with t e.1)) es) ≡ unless_ended t (lookup (nat_eq k) es)
lookup-kept t k es d = lookup-filter-values nat_eq_equiv (λ u. not (ends_with t u)) k es d ∙ at_option (lookup (nat_eq k) es)
  where
    at_test : (u : Doing) (b : Bool) → (if not b then Some u else None) ≡ (if b then None else Some u)
    at_test u true = refl
    at_test u false = refl

    at_option : (o : Option Doing) → option_filter (λ u. not (ends_with t u)) o ≡ unless_ended t o
    at_option None = refl
    at_option (Some u) = at_test u (ends_with t u)

pub some_ended : (t : Ended) (o : Option Doing) → is_ended t o ≡ true → is_some o ≡ true
some_ended t None h = h
some_ended t (Some u) h = refl
