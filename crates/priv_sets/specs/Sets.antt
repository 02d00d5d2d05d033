-- Sets of privileges: the numbers that are in them, in the table's order.
use Rattle.std.specs.Prelude.{ℕ, zero, suc, List, [], ◌∷◌, ◌+◌, ◌++◌, ◌==◌, Bool, true, not, ◌&&◌, ◌||◌, filter, map}
use Rattle.std.specs.List.{join_with_byte, list_all, list_any}
use Rattle.std.specs.Int.{bit_at}
use Rattle.priv_sets.specs.declared.table.Class.{Class}
use Rattle.priv_sets.specs.declared.table.Class.TheVariants.{Required, Default}
use Rattle.priv_sets.specs.Table.{is_of, name_of}

abbrev pub numbers_from : ℕ → ℕ → List ℕ
numbers_from n zero = []
numbers_from n (suc count) = n ∷ numbers_from (n + 1) count

-- the set of the privileges that pass a test
unfoldable pub set_of : (ℕ → Bool) → List ℕ
set_of test = filter test (numbers_from 0 40)

unfoldable pub has : List ℕ → ℕ → Bool
has set n = list_any (λ m. m == n) set

unfoldable pub union : List ℕ → List ℕ → List ℕ
union set other = set_of (λ n. has set n || has other n)

unfoldable pub without : List ℕ → List ℕ → List ℕ
without set other = set_of (λ n. has set n && not (has other n))

unfoldable pub both : List ℕ → List ℕ → List ℕ
both set other = set_of (λ n. has set n && has other n)

unfoldable pub within : List ℕ → List ℕ → Bool
within set other = list_all (has other) set

unfoldable pub only : ℕ → List ℕ
only n = set_of (λ m. m == n)

unfoldable pub everything : List ℕ
everything = set_of (λ n. true)

unfoldable pub all_of : Class → List ℕ
all_of class = set_of (is_of class)

-- what a zone has unless it says otherwise
unfoldable pub default_set : List ℕ
default_set = union (all_of Default) (all_of Required)

-- the names of a set in the table's order
unfoldable pub print_of : List ℕ → List ℕ
print_of set = join_with_byte 44 (map name_of set)

-- the privileges whose bits are set in a number
unfoldable pub set_of_bits : ℕ → List ℕ
set_of_bits bits = set_of (λ n. bit_at bits n == 1)

-- a text with a name after it, and a comma between the two where there is a text
abbrev pub with_name : List ℕ → List ℕ → List ℕ
with_name [] name = name
with_name (b ∷ text) name = (b ∷ text) ++ (44 ∷ name)
