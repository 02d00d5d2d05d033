-- The one place in a list where a test holds.
use Rattle.std.proofs.Common.{◌≡◌, ◌∙◌, ◌≤◌, ◌<◌, ◌+◌, ◌-◌, ℕ, suc, Bool, true, false, not, cond, ◌&&◌, ◌||◌, List, [], ◌∷◌, Some, None, Ok, Err, length, refl, ap, sym, arith}
use Rattle.std.specs.Prelude.{count_by, drop, nat_lt, position, take}
use Rattle.std.specs.List.{position_or_len}
use Rattle.std.specs.Str.{bytes_eq}
use Rattle.std.proofs.lemmas.Bool.Decides.{nat_tests}
use Rattle.std.proofs.lemmas.Slice.Eq.{bytes_eq-Decides}
use Rattle.std.proofs.lemmas.List.{take_rest}
use Rattle.std.proofs.lemmas.List.Sums.{sum_by-cons}
use Rattle.config_terms.specs.declared.fault.ConfigFault.TheVariants.{SeveralMatch}
use Rattle.config_terms.specs.Allowed.{are_distinct, has_key}
use Rattle.config_terms.specs.Matches.{only_place}

counts_all : {A : Type 0} (xs : List A) → count_by (λ x. true) xs ≡ length xs
counts_all [] = refl
counts_all (x ∷ xs) = let more = counts_all xs in sum_by-cons (λ y. 1) x xs ∙ omega (arith, more)

pub one_alone : {A : Type 0} (xs : List A) → 1 ≤ length xs → length xs < 2 → Ok 0 ≡ only_place (λ x. true) xs
unfolding only_place
one_alone [] some few = absurd (omega arith)
one_alone (x ∷ []) some few = refl
one_alone (x ∷ y ∷ xs) some few = absurd (omega arith)

pub several_match : {A : Type 0} (xs : List A) → 2 ≤ length xs → Err (SeveralMatch (length xs)) ≡ only_place (λ x. true) xs
unfolding only_place
several_match [] many = absurd (omega arith)
several_match (x ∷ xs) many =
    let first : nat_lt 0 (length (x ∷ xs)) ≡ true = grind (arith, nat_tests) in
    let several : nat_lt 1 (length (x ∷ xs)) ≡ true = grind (arith, nat_tests) in
    rw (counts_all (x ∷ xs), first, several) refl

-- none matches before the first that does
counted_after : {A : Type 0} (p : A → Bool) (xs : List A) → count_by p (drop (position_or_len p xs) xs) ≡ count_by p xs
counted_after p [] = refl
counted_after p (x ∷ xs) =
    elim (p x) as (λ b. p x ≡ b → count_by p (drop (position_or_len p (x ∷ xs)) (x ∷ xs)) ≡ count_by p (x ∷ xs)) [
      | true ↦ λ e. ap (λ k. count_by p (drop k (x ∷ xs))) (ap (λ b. cond (not b) (1 + position_or_len p xs) 0) e)
      | false ↦ λ e.
          let next : suc (position_or_len p xs) ≡ 1 + position_or_len p xs = omega arith in
          let none : cond {A = ℕ} (p x) 1 0 ≡ 0 = ap (λ b. cond {A = ℕ} b 1 0) e in
          let more : count_by p xs ≡ count_by p (x ∷ xs) = omega (arith, none, sum_by-cons (λ y. cond (p y) 1 0) x xs) in
          ap (λ k. count_by p (drop k (x ∷ xs))) (ap (λ b. cond (not b) (1 + position_or_len p xs) 0) e ∙ sym next)
          ∙ counted_after p xs
          ∙ more
    ] refl

placed : {A : Type 0} (p : A → Bool) (xs : List A) (i : ℕ) → position p xs ≡ Some i → position_or_len p xs ≡ i
placed p xs i h =
    elim (nat_lt (position_or_len p xs) (length xs)) as (λ b. cond b (Some (position_or_len p xs)) None ≡ Some i → position_or_len p xs ≡ i) [
      | true ↦ λ e. cc
      | false ↦ λ e. absurd (cc)
    ] h

-- from the first that matches on there are as many as in all
counted_from : {A : Type 0} (p : A → Bool) (xs : List A) (i : ℕ) → position p xs ≡ Some i → count_by p (drop i xs) ≡ count_by p xs
counted_from p xs i h = ap (λ k. count_by p (drop k xs)) (sym (placed p xs i h)) ∙ counted_after p xs

-- the first match is the one, where none comes after it
pub one_from_first : {A : Type 0} (p : A → Bool) (xs : List A) (i n : ℕ) → position p xs ≡ Some i → n ≡ count_by p (take (length xs - i) (drop i xs)) → n ≤ 1 → Ok i ≡ only_place p xs
unfolding only_place
one_from_first p xs i n h e few =
    let all : count_by p xs ≡ n = sym (e ∙ ap (count_by p) (take_rest xs i) ∙ counted_from p xs i h) in
    let one : nat_lt 1 n ≡ false = grind (arith, nat_tests) in
    rw (h, all, one) refl

pub several_from_first : {A : Type 0} (p : A → Bool) (xs : List A) (i n : ℕ) → position p xs ≡ Some i → n ≡ count_by p (take (length xs - i) (drop i xs)) → 1 < n → Err (SeveralMatch n) ≡ only_place p xs
unfolding only_place
several_from_first p xs i n h e many =
    let all : count_by p xs ≡ n = sym (e ∙ ap (count_by p) (take_rest xs i) ∙ counted_from p xs i h) in
    let several : nat_lt 1 n ≡ true = grind (arith, nat_tests) in
    rw (h, all, several) refl

-- where none has a key, none passes a test that wants it
none_pass : {A : Type 0} (p : A → Bool) (key : A → List ℕ) (text : List ℕ) → ((x : A) → p x ≡ true → bytes_eq (key x) text ≡ true) → (xs : List A) → has_key key text xs ≡ false → count_by p xs ≡ 0
none_pass p key text wants [] h = refl
none_pass p key text wants (x ∷ xs) h =
    elim (bytes_eq (key x) text) as (λ b. bytes_eq (key x) text ≡ b → (b || has_key key text xs) ≡ false → count_by p (x ∷ xs) ≡ 0) [
      | true ↦ λ e g. absurd (cc)
      | false ↦ λ e g.
          elim (p x) as (λ b. p x ≡ b → count_by p (x ∷ xs) ≡ 0) [
            | true ↦ λ d. absurd (let wanted = wants x d in cc)
            | false ↦ λ d.
                let none : cond {A = ℕ} (p x) 1 0 ≡ 0 = ap (λ b. cond {A = ℕ} b 1 0) d in
                omega (arith, none, sum_by-cons (λ y. cond (p y) 1 0) x xs, none_pass p key text wants xs g)
          ] refl
    ] refl h

-- where no two have one key, at most one passes a test that wants a key
one_passes : {A : Type 0} (p : A → Bool) (key : A → List ℕ) (text : List ℕ) → ((x : A) → p x ≡ true → bytes_eq (key x) text ≡ true) → (xs : List A) → are_distinct key xs ≡ true → count_by p xs ≤ 1
one_passes p key text wants [] h = omega arith
one_passes p key text wants (x ∷ xs) h =
    elim (has_key key (key x) xs) as (λ b. has_key key (key x) xs ≡ b → (not b && are_distinct key xs) ≡ true → count_by p (x ∷ xs) ≤ 1) [
      | true ↦ λ e g. absurd (cc)
      | false ↦ λ e g.
          elim (p x) as (λ b. p x ≡ b → count_by p (x ∷ xs) ≤ 1) [
            | true ↦ λ d.
                let same : key x ≡ text = (bytes_eq-Decides (key x) text).0 (wants x d) in
                let first : cond {A = ℕ} (p x) 1 0 ≡ 1 = ap (λ b. cond {A = ℕ} b 1 0) d in
                let rest = none_pass p key text wants xs (ap (λ k. has_key key k xs) (sym same) ∙ e) in
                omega (arith, first, rest, sum_by-cons (λ y. cond (p y) 1 0) x xs)
            | false ↦ λ d.
                let none : cond {A = ℕ} (p x) 1 0 ≡ 0 = ap (λ b. cond {A = ℕ} b 1 0) d in
                omega (arith, none, sum_by-cons (λ y. cond (p y) 1 0) x xs, one_passes p key text wants xs g)
          ] refl
    ] refl h

pub first_is_only : {A : Type 0} (p : A → Bool) (key : A → List ℕ) (text : List ℕ) → ((x : A) → p x ≡ true → bytes_eq (key x) text ≡ true) → (xs : List A) (i : ℕ) → are_distinct key xs ≡ true → position p xs ≡ Some i → Ok i ≡ only_place p xs
first_is_only p key text wants xs i h e =
    let few = one_passes p key text wants xs h in
    one_from_first p xs i (count_by p xs) e (sym (ap (count_by p) (take_rest xs i) ∙ counted_from p xs i e)) few

pub wants_key : (a b : Bool) → (a && b) ≡ true → a ≡ true
wants_key true b h = refl
wants_key false b h = absurd (cc)
