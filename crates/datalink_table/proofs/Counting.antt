-- How many items of each kind there are after one more.
use Rattle.std.proofs.Common.{◌≡◌, ◌+◌, ◌∷◌, ◌++◌, [], ℕ, Bool, List, Result, Ok, Err, true, false, nat_lt, refl, ap, sym, arith, ◌∙◌}
use Rattle.indexmap.specs.IndexSet.{insert_key}
use Rattle.std.specs.Prelude.{if◌then◌else◌}
use Rattle.std.specs.List.{count_by}
use Rattle.std.proofs.lemmas.List.Sums.{sum_by-append}
use Rattle.datalink_table.specs.Claims.{holds, is_of, same_claim}
use Rattle.datalink_table.specs.Counts.{count_in, counting}
use Rattle.datalink_table.specs.declared.claims.Claim.{Claim}
use Rattle.datalink_table.specs.declared.claims.ClaimKind.{ClaimKind}
use Rattle.datalink_table.specs.declared.claims.ClaimKind.TheVariants.{Link, Address, Dataset}
use Rattle.datalink_table.specs.Shared.{Shared, count_of, declare_answer, is_declared}
use Rattle.datalink_table.specs.declared.counts.Counts.{Counts}
use Rattle.datalink_table.specs.declared.faults.ClaimFault.{ClaimFault}
use Rattle.datalink_table.specs.declared.faults.ClaimFault.TheVariants.{Duplicate, TooMany}
use Rattle.datalink_table.specs.declared.limits.TheConstants.{ITEMS_MAX}

abbrev one_of : ClaimKind → Claim → ℕ
one_of kind c = count_by (is_of kind) (c ∷ [])

counted_one : (kind : ClaimKind) (c : Claim) (n : Counts) → count_in kind (counting c.kind n) ≡ count_in kind n + one_of kind c
counted_one kind c n = at_kinds kind c.kind
  where
    at_kinds : (kind of : ClaimKind) → count_in kind (counting of n) ≡ count_in kind n + one_of kind (record { kind = of; item = c.item })
    at_kinds Link Link = omega arith
    at_kinds Link Address = omega arith
    at_kinds Link Dataset = omega arith
    at_kinds Address Link = omega arith
    at_kinds Address Address = omega arith
    at_kinds Address Dataset = omega arith
    at_kinds Dataset Link = omega arith
    at_kinds Dataset Address = omega arith
    at_kinds Dataset Dataset = omega arith

pub counted : (c : Claim) (n : Counts) (cs : List Claim) → ((kind : ClaimKind) → count_in kind n ≡ count_by (is_of kind) cs) → (kind : ClaimKind) → count_in kind (counting c.kind n) ≡ count_by (is_of kind) (cs ++ c ∷ [])
counted c n cs were kind = counted_one kind c n ∙ (ap (λ m. m + one_of kind c) (were kind) ∙ sym (sum_by-append (λ d. if is_of kind d then 1 else 0) cs (c ∷ [])))

-- an item that may be declared isn't declared, and comes last
pub undeclared : (c : Claim) (s : Shared) → declare_answer c s ≡ Ok tt → is_declared c s ≡ false
undeclared c s h = of_test (is_declared c s) (if nat_lt (count_of c.kind s) ITEMS_MAX then Ok tt else Err (TooMany ITEMS_MAX)) h
  where
    of_test : (b : Bool) (rest : Result (Unit {0}) ClaimFault) → (if b then Err Duplicate else rest) ≡ Ok (tt {0}) → b ≡ false
    of_test true rest h = cc
    of_test false rest h = refl

pub comes_last : (c : Claim) (cs : List Claim) → holds c cs ≡ false → insert_key same_claim cs c ≡ cs ++ c ∷ []
comes_last c cs h = rw h refl
