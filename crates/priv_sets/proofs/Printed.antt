-- The names of a set, one after another.
use Rattle.std.proofs.Common.{◌≡◌, ◌∙◌, ◌+◌, ◌++◌, ◌<◌, ℕ, zero, suc, Bool, true, false, cond, nat_lt, List, [], ◌∷◌, Some, filter, length, map, refl, sym, ap, arith, add-one, append_assoc, append-nil, length-append}
use Rattle.std.specs.Prelude.{◌==◌}
use Rattle.std.specs.Int.{bit_at}
use Rattle.std.specs.List.{join_with_byte, slice_get}
use Rattle.std.proofs.lemmas.Bool.{agree_below_at, ltb-true}
use Rattle.std.proofs.lemmas.List.{map-append}
use Rattle.std.proofs.lemmas.List.Elements.{filter-append}
use Rattle.priv_sets.specs.declared.table.Privilege.{Privilege}
use Rattle.priv_sets.specs.Rows.{row_of}
use Rattle.priv_sets.specs.Table.{name_in, name_of, privileges}
use Rattle.priv_sets.specs.Sets.{has, numbers_from, print_of, set_of, set_of_bits, with_name}
use Rattle.priv_sets.proofs.Numbers.{set_of-has}

-- the names of those in a set below a number
unfoldable pub printed : List ℕ → ℕ → List ℕ
printed set k = join_with_byte 44 (map name_of (filter (has set) (numbers_from 0 k)))

numbers_from-last : (from count : ℕ) → numbers_from from (suc count) ≡ numbers_from from count ++ (from + count) ∷ []
numbers_from-last from zero = let e : from ≡ from + 0 = omega arith in ap (λ n. n ∷ []) e
numbers_from-last from (suc count) =
    ap (λ ns. from ∷ ns) (numbers_from-last (from + 1) count ∙ ap (λ n. numbers_from (from + 1) count ++ n ∷ []) (omega arith))

-- every privilege has a name
name_of-some : (n : ℕ) → n < 40 → 0 < length (name_of n)
unfolding name_of privileges
name_of-some n below = ltb-true _ _ (agree_below_at (λ k. nat_lt 0 (length (name_of k))) (λ k. true) 40 n refl below)

join-push : (name : List ℕ) (names : List (List ℕ)) (last : List ℕ) → join_with_byte 44 ((name ∷ names) ++ last ∷ []) ≡ join_with_byte 44 (name ∷ names) ++ 44 ∷ last
join-push name [] last = refl
join-push name (next ∷ names) last =
    ap (λ text. name ++ (44 ∷ text)) (join-push next names last) ∙ sym (append_assoc name (44 ∷ join_with_byte 44 (next ∷ names)) (44 ∷ last))

with_name-some : (text name : List ℕ) → 0 < length text → with_name text name ≡ text ++ 44 ∷ name
with_name-some [] name some = absurd (omega arith)
with_name-some (b ∷ text) name some = refl

join-some : (name : List ℕ) (names : List (List ℕ)) → 0 < length name → 0 < length (join_with_byte 44 (name ∷ names))
join-some name [] some = some
join-some name (next ∷ names) some = omega (arith, length-append name (44 ∷ join_with_byte 44 (next ∷ names)))

-- names that are not empty, and one more
join_more : (numbers : List ℕ) (last : List ℕ) → ((n : ℕ) (ns : List ℕ) → numbers ≡ n ∷ ns → n < 40) → join_with_byte 44 (map name_of numbers ++ last ∷ []) ≡ with_name (join_with_byte 44 (map name_of numbers)) last
join_more [] last h = refl
join_more (n ∷ ns) last h =
    join-push (name_of n) (map name_of ns) last
    ∙ sym (with_name-some (join_with_byte 44 (map name_of (n ∷ ns))) last (join-some (name_of n) (map name_of ns) (name_of-some n (h n ns refl))))

head_below : (p : ℕ → Bool) (from count n : ℕ) (ns : List ℕ) → filter p (numbers_from from count) ≡ n ∷ ns → n < from + count
head_below p from zero n ns h = cc
head_below p from (suc count) n ns h =
    elim (p from) as (λ v. cond v (from ∷ filter p (numbers_from (from + 1) count)) (filter p (numbers_from (from + 1) count)) ≡ n ∷ ns → n < from + suc count) [
      | true ↦ λ g. let same : from ≡ n = cc in omega arith
      | false ↦ λ g. let below = head_below p (from + 1) count n ns g in omega arith
    ] h

pub printed-none : (set : List ℕ) → printed set 0 ≡ []
unfolding printed
printed-none set = refl

numbers-more : (set : List ℕ) (k : ℕ) → filter (has set) (numbers_from 0 (k + 1)) ≡ filter (has set) (numbers_from 0 k) ++ cond (has set k) (k ∷ []) []
numbers-more set k =
    let next : numbers_from 0 (k + 1) ≡ numbers_from 0 k ++ k ∷ [] = rw add-one (numbers_from-last 0 k ∙ ap (λ n. numbers_from 0 k ++ n ∷ []) (omega arith)) in
    rw next (filter-append (has set) (numbers_from 0 k) (k ∷ []))

pub printed-same : (set : List ℕ) (k : ℕ) → has set k ≡ false → printed set k ≡ printed set (k + 1)
unfolding printed
printed-same set k out = rw (numbers-more set k, out) (ap (λ ns. join_with_byte 44 (map name_of ns)) (sym (append-nil _)))

pub printed-more : (set : List ℕ) (k : ℕ) (p : Privilege) → k < 40 → has set k ≡ true → slice_get privileges k ≡ Some (row_of p) → with_name (printed set k) p.name.now ≡ printed set (k + 1)
unfolding printed
printed-more set k p below here row =
    let numbers = filter (has set) (numbers_from 0 k) in
    let name : name_of k ≡ p.name.now = unfold name_of in ap name_in row in
    let more = join_more numbers (name_of k) (λ n ns e. let low = head_below (has set) 0 k n ns e in omega arith) in
    rw (numbers-more set k, here, map-append name_of numbers (k ∷ []), more, name) refl

pub printed_all : (bits : ℕ) → printed (set_of_bits bits) 40 ≡ print_of (set_of_bits bits)
unfolding printed print_of set_of_bits set_of
printed_all bits = ap (λ ns. join_with_byte 44 (map name_of ns)) (set_of-has (λ n. bit_at bits n == 1))
