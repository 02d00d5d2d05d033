-- Rows of the table.
use Rattle.std.proofs.Common.{◌≡◌, ◌<◌, ◌≤◌, ◌∙◌, ◌+◌, ℕ, Bool, cond, not, List, [], ◌∷◌, Some, length, map, refl, sym, ap, arith}
use Rattle.std.specs.List.{position, position_or_len, prefix_len, slice_get}
use Rattle.std.specs.Option.{option_map}
use Rattle.std.specs.Str.{bytes_eq}
use Rattle.std.proofs.lemmas.List.{length-map}
use Rattle.std.proofs.lemmas.Option.{cond_some, slice_get-map, slice_get_past}
use Rattle.std.proofs.lemmas.Bool.{ltb-true}
use Rattle.priv_sets.specs.declared.table.Privilege.{Privilege}
use Rattle.priv_sets.specs.Table.{name_in, name_of, privileges, number_of}
use Rattle.priv_sets.specs.Rows.{row_of}

pub length_of_privileges : length privileges ≡ 40
unfolding privileges
length_of_privileges = refl

pub count_of_rows : (table : List Privilege) → map row_of table ≡ privileges → length table ≡ 40
count_of_rows table h = sym (length-map table row_of) ∙ ap length h ∙ length_of_privileges

pub row_at : (table : List Privilege) (n : ℕ) (p : Privilege) → map row_of table ≡ privileges → slice_get table n ≡ Some p → slice_get privileges n ≡ Some (row_of p)
row_at table n p h e = ap (λ rows. slice_get rows n) (sym h) ∙ slice_get-map row_of table n ∙ ap (option_map row_of) e

prefix_len-map : {A B : Type 0} (f : A → B) (p : B → Bool) (xs : List A) → prefix_len p (map f xs) ≡ prefix_len (λ x. p (f x)) xs
prefix_len-map f p [] = refl
prefix_len-map f p (x ∷ xs) = ap (λ n. cond (p (f x)) (1 + n) 0) (prefix_len-map f p xs)

position-map : {A B : Type 0} (f : A → B) (p : B → Bool) (xs : List A) → position p (map f xs) ≡ position (λ x. p (f x)) xs
position-map f p xs =
    rw (prefix_len-map f (λ x. not (p x)) xs, length-map xs f) refl

pub first_row : (table : List Privilege) (name : List ℕ) → map row_of table ≡ privileges → number_of name ≡ position (λ p. bytes_eq p.name.now name) table
unfolding number_of
first_row table name h = ap (position (λ r. bytes_eq r.name name)) (sym h) ∙ position-map row_of (λ r. bytes_eq r.name name) table

pub position-below : {A : Type 0} (p : A → Bool) (xs : List A) (n : ℕ) → position p xs ≡ Some n → n < length xs
position-below p xs n h =
    let there = cond_some _ _ _ h in
    let inside : position_or_len p xs < length xs = ltb-true _ _ there.0 in
    omega (arith, there.1)

pub row_number : (table : List Privilege) (name : List ℕ) (n : ℕ) → map row_of table ≡ privileges → Some n ≡ position (λ p. bytes_eq p.name.now name) table → n < 40
row_number table name n h e =
    let below = position-below (λ p. bytes_eq p.name.now name) table n (sym e) in
    omega (arith, count_of_rows table h)

-- the name of a number is that of its row, and past the table there is none
pub name_at : (n : ℕ) (p : Privilege) → slice_get privileges n ≡ Some (row_of p) → p.name.now ≡ name_of n
unfolding name_of
name_at n p e = sym (ap name_in e)

pub no_name_past : (n : ℕ) → 40 ≤ n → [] ≡ name_of n
unfolding name_of
no_name_past n past =
    let long : length privileges ≤ n = omega (arith, length_of_privileges) in
    sym (ap name_in (slice_get_past privileges n long))
