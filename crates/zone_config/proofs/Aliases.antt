-- The rctl that an alias is kept as, among all.
use Rattle.std.proofs.Common.{◌≡◌, ◌<◌, ◌+◌, suc, ℕ, Bool, true, false, cond, not, List, [], ◌∷◌, ◌++◌, ◌||◌, ◌&&◌, length, Option, Some, None, refl, ap, sym, subst, ◌∙◌, arith, length-append}
use Rattle.std.specs.Prelude.{position, remove, slice_set}
use Rattle.std.specs.Char.{is_ascii_digit}
use Rattle.std.specs.List.{list_all, list_any, position_from}
use Rattle.std.specs.Str.{bytes_eq}
use Rattle.std.proofs.lemmas.Iterator.Adapters.{position_from-zero}
use Rattle.std.proofs.lemmas.List.Folds.{list_any-append}
use Rattle.std.proofs.lemmas.Slice.Eq.{bytes_eq-Decides}
use Rattle.config_terms.specs.declared.terms.Kind.TheVariants as kind
use Rattle.config_terms.specs.declared.terms.Rctl.{Rctl}
use Rattle.config_terms.specs.declared.terms.Resource.TheVariants as resource
use Rattle.config_terms.specs.Allowed.{are_distinct, entry_allowed, fields_fit, has_key, is_allowed}
use Rattle.config_terms.specs.Fields.{rctl_shown}
use Rattle.config_terms.specs.Numbers.{is_limit, number_of}
use Rattle.zn_base.specs.Decimals.{decimal_of, digits_value, has_no_leading_zero, is_decimal}
use Rattle.config_terms.specs.Rules.{fits, obeys}
use Rattle.zone_config.specs.declared.terms.Alias.{Alias}
use Rattle.zone_config.specs.declared.terms.Alias.TheVariants.{CpuShares, MaxLwps, MaxProcesses}
use Rattle.zone_config.specs.declared.terms.Contents.{Contents}
use Rattle.zone_config.specs.Property.{rctl_name}
use Rattle.zone_config.specs.Resources.{has_taken, has_taken_but, with_resource}
use Rattle.zone_config.specs.Edits.{alias_rctl, alias_set, is_held, is_named_for, place_of}
use Rattle.zone_config.specs.Sound.{IsKept}
use Rattle.zone_config.proofs.Adding.{free_added}
use Rattle.zone_config.proofs.Lists.{both_false, both_true, false_if_not, first_true, rest_true}

-- a list parted at the first of its items that passes a test
pub record Parts {A : Type 0} (p : A → Bool) (xs : List A) (i : ℕ) : Type 0 where
  pub front : List A
  pub it : A
  pub back : List A
  pub are : xs ≡ front ++ it ∷ back
  pub place : i ≡ length front
  pub none : list_any p front ≡ false
  pub first : p it ≡ true

-- one more item in front
parts_behind : {A : Type 0} (p : A → Bool) (x : A) (xs : List A) (i : ℕ) → p x ≡ false → Parts p xs i → Parts p (x ∷ xs) (suc i)
parts_behind p x xs i h s = record {
  front = x ∷ s.front;
  it = s.it;
  back = s.back;
  are = ap (λ ys. x ∷ ys) s.are;
  place = ap suc s.place;
  none = both_false (p x) _ h s.none;
  first = s.first;
}

-- where the first of a list counts as the kth
parts_from : {A : Type 0} (p : A → Bool) (k n : ℕ) (xs : List A) → position_from p k xs ≡ Some n → (i : ℕ) × ((n ≡ k + i) × Parts p xs i)
parts_from p k n [] h = absurd (cc)
parts_from {A} p k n (x ∷ xs) h =
    elim (p x) as (λ b. p x ≡ b → cond b (Some k) (position_from p (k + 1) xs) ≡ Some n → (i : ℕ) × ((n ≡ k + i) × Parts p (x ∷ xs) i)) [
      | true ↦ λ e g. let same : k ≡ n = cc in
          (0, (omega arith, record { front = []; it = x; back = xs; are = refl; place = refl; none = refl; first = e }))
      | false ↦ λ e g.
          let rest = parts_from p (k + 1) n xs g in
          (suc (rest.0), (omega (arith, rest.1.0), parts_behind p x xs (rest.0) e rest.1.1))
    ] refl h

pub parted : {A : Type 0} (p : A → Bool) (xs : List A) (n : ℕ) → position p xs ≡ Some n → Parts p xs n
parted p xs n h =
    let rest = parts_from p 0 n xs (sym (position_from-zero p xs) ∙ h) in
    let same : rest.0 ≡ n = omega (arith, rest.1.0) in
    subst (λ (i : ℕ). Parts p xs i) same rest.1.1

none_from : {A : Type 0} (p : A → Bool) (k : ℕ) (xs : List A) → position_from p k xs ≡ None → list_any p xs ≡ false
none_from p k [] h = refl
none_from p k (x ∷ xs) h =
    elim (p x) as (λ b. p x ≡ b → cond b (Some k) (position_from p (k + 1) xs) ≡ None → (b || list_any p xs) ≡ false) [
      | true ↦ λ e g. absurd (cc)
      | false ↦ λ e g. none_from p (k + 1) xs g
    ] refl h

pub none_passes : {A : Type 0} (p : A → Bool) (xs : List A) → position p xs ≡ None → list_any p xs ≡ false
none_passes p xs h = none_from p 0 xs (sym (position_from-zero p xs) ∙ h)

-- a list without, and with another in place of, the item in the middle
pub remove-middle : {A : Type 0} (front : List A) (x : A) (back : List A) → remove (front ++ x ∷ back) (length front) ≡ front ++ back
remove-middle [] x back = refl
remove-middle (y ∷ front) x back = ap (λ ys. y ∷ ys) (remove-middle front x back)

pub slice_set-middle : {A : Type 0} (front : List A) (x z : A) (back : List A) → slice_set (front ++ x ∷ back) (length front) z ≡ front ++ z ∷ back
slice_set-middle [] x z back = refl
slice_set-middle (y ∷ front) x z back = ap (λ ys. y ∷ ys) (slice_set-middle front x z back)

distinct-behind : {A : Type 0} (key : A → List ℕ) (front back : List A) → are_distinct key (front ++ back) ≡ true → are_distinct key back ≡ true
distinct-behind key [] back h = h
distinct-behind key (y ∷ front) back h = distinct-behind key front back (rest_true (not (has_key key (key y) (front ++ back))) _ h)

-- in a list whose keys are distinct, none after the first of a key has it
pub none_behind : {A : Type 0} (key : A → List ℕ) (k : List ℕ) (xs : List A) (i : ℕ) → are_distinct key xs ≡ true → (s : Parts (λ x. bytes_eq (key x) k) xs i)
    → has_key key k s.back ≡ false
none_behind key k xs i h s =
    let same = (bytes_eq-Decides (key s.it) k).0 s.first in
    let middle = distinct-behind key s.front (s.it ∷ s.back) (ap (are_distinct key) (sym s.are) ∙ h) in
    ap (λ l. has_key key l s.back) (sym same) ∙ false_if_not _ (first_true _ _ middle)

-- nor has one of the rest
pub key_taken_once : {A : Type 0} (key : A → List ℕ) (k : List ℕ) (xs : List A) (i : ℕ) → are_distinct key xs ≡ true → Parts (λ x. bytes_eq (key x) k) xs i
    → has_key key k (remove xs i) ≡ false
key_taken_once key k xs i h s =
    rw (s.are, s.place, remove-middle s.front s.it s.back) (list_any-append (λ x. bytes_eq (key x) k) s.front s.back ∙ both_false _ _ s.none (none_behind key k xs i h s))

-- the rctl of an alias's name
pub place_within : (a : Alias) (rctls : List Rctl) (i : ℕ) → place_of a rctls ≡ Some i → i < length rctls
place_within a rctls i h =
    let s = parted (is_named_for a) rctls i h in
    omega (arith, s.place, ap length s.are, length-append s.front (s.it ∷ s.back))

pub free_but : (a : Alias) (n i size : ℕ) (c : Contents) → IsKept c size → place_of a c.rctl ≡ Some i → has_taken_but i (resource.Rctl (alias_rctl a n)) c ≡ false
free_but a n i size c k h = key_taken_once (λ r. r.name) (rctl_name a) c.rctl i (k.sound.resources.kinds kind.Rctl).once (parted (is_named_for a) c.rctl i h)

pub free_anew : (a : Alias) (n : ℕ) (c : Contents) → place_of a c.rctl ≡ None → has_taken (resource.Rctl (alias_rctl a n)) c ≡ false
free_anew a n c h = none_passes (is_named_for a) c.rctl h

fits_name : (a : Alias) → fields_fit kind.Rctl (rctl_shown (alias_rctl a 1)) ≡ true
unfolding fields_fit fits obeys
fits_name CpuShares = refl
fits_name MaxLwps = refl
fits_name MaxProcesses = refl

regrouped : (a b d : Bool) → ((a && b) && d) ≡ true → (a && (b && d)) ≡ true
regrouped true b d h = h
regrouped false b d h = h

limit_if_number : (text : List ℕ) (n : ℕ) → number_of text ≡ Some n → is_limit n ≡ true
unfolding decimal_of
limit_if_number text n h =
    elim (is_decimal 18446744073709551615 text) as (λ b. is_decimal 18446744073709551615 text ≡ b → cond {A = Option ℕ} b (Some (digits_value 0 text)) None ≡ Some n → is_limit n ≡ true) [
      | true ↦ λ e g.
          let same : digits_value 0 text ≡ n = cc in
          ap is_limit (sym same) ∙ rest_true (list_all is_ascii_digit text) (is_limit (digits_value 0 text)) (rest_true (has_no_leading_zero text) (list_all is_ascii_digit text && is_limit (digits_value 0 text)) (regrouped (has_no_leading_zero text) (list_all is_ascii_digit text) (is_limit (digits_value 0 text)) e))
      | false ↦ λ e g. absurd (cc)
    ] refl h

-- it has values that their rules allow
pub rctl_fits : (a : Alias) (text : List ℕ) (n : ℕ) → number_of text ≡ Some n → is_allowed (resource.Rctl (alias_rctl a n)) ≡ true
unfolding entry_allowed
rctl_fits a text n h = both_true _ _ (both_true _ _ (fits_name a) refl) (both_true _ _ (limit_if_number text n h) refl)

-- an alias that has no rctl yet is set as its rctl is added
pub set_anew : (a : Alias) (text : List ℕ) (n : ℕ) (c : Contents) → number_of text ≡ Some n → is_held a c.rctl ≡ false → place_of a c.rctl ≡ None
    → alias_set a text c ≡ with_resource (resource.Rctl (alias_rctl a n)) c
unfolding alias_set
set_anew a text n c number held none =
    rw (number, held, none) (sym (free_added (resource.Rctl (alias_rctl a n)) c (rctl_fits a text n number) (free_anew a n c none)))
