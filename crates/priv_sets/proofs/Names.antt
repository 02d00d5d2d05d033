-- The names of the table are read back as their numbers, and numbers have the names that they were read from.
use Rattle.std.proofs.Common.{◌≡◌, ◌<◌, ◌∙◌, ℕ, Bool, true, false, List, [], get_or, length, Some, None, Option, nat_eq, refl, ap}
use Rattle.std.specs.List.{list_all}
use Rattle.std.specs.Str.{bytes_eq}
use Rattle.std.proofs.lemmas.Bool.{agree_below_at, eqb-true}
use Rattle.std.proofs.lemmas.Option.{slice_get-get_or}
use Rattle.std.proofs.lemmas.List.Quantifiers.{position-Some}
use Rattle.std.proofs.lemmas.Slice.Eq.{bytes_eq-Decides}
use Rattle.zn_base.specs.Names.{is_name_byte}
use Rattle.priv_sets.proofs.Rows.{position-below}
use Rattle.priv_sets.specs.Table.{Row, name_in, name_of, number_of, privileges, row}
use Rattle.priv_sets.specs.declared.table.Class.TheVariants.{Required}

is_at : ℕ → Option ℕ → Bool
is_at n None = false
is_at n (Some m) = nat_eq m n

at_number : (n : ℕ) (found : Option ℕ) → is_at n found ≡ true → found ≡ Some n
unfolding is_at
at_number n None h = cc
at_number n (Some m) h = ap Some (eqb-true m n h)

pub number_of_name : (n : ℕ) → n < 40 → number_of (name_of n) ≡ Some n
unfolding number_of name_of privileges is_at
number_of_name n below = at_number n (number_of (name_of n)) (agree_below_at (λ k. is_at k (number_of (name_of k))) (λ k. true) 40 n refl below)

-- a name has no byte that a zone's name couldn't have
pub name_bytes : (n : ℕ) → n < 40 → list_all is_name_byte (name_of n) ≡ true
unfolding name_of privileges
name_bytes n below = agree_below_at (λ k. list_all is_name_byte (name_of k)) (λ k. true) 40 n refl below

pub name_of_number : (name : List ℕ) (n : ℕ) → number_of name ≡ Some n → name_of n ≡ name
unfolding number_of name_of
name_of_number name n h =
    let none : Row = row [] Required in
    let at = position-Some (λ r. bytes_eq r.name name) privileges n none h in
    ap name_in (slice_get-get_or privileges n none at.0) ∙ (bytes_eq-Decides (get_or privileges n none).name name).0 at.1

pub number_inside : (name : List ℕ) (n : ℕ) → number_of name ≡ Some n → n < length privileges
unfolding number_of
number_inside name n h = position-below (λ r. bytes_eq r.name name) privileges n h
