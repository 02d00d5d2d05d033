-- A process that enters for a call, in the list of the zone's processes.
use Rattle.std.proofs.Common.{◌≡◌, ◌∷◌, ◌++◌, [], ◌∙◌, ℕ, Bool, true, false, List, Result, Ok, Err, IfOk, ap, map, refl, sym}
use Rattle.std.specs.Prelude.{nat_lt, if◌then◌else◌}
use Rattle.kernel_objects.specs.Processes.{Process, below, row_of}
use Rattle.kernel_objects.specs.declared.objects.ProcRow.{ProcRow}
use Rattle.zone_pools.specs.Owned_lists.{but_last, put}
use Rattle.zone_cases.specs.Code.Errands.{errand_effect, last_row, placed}
use Rattle.process_calls.specs.declared.call.Call.{Call}
use Rattle.process_calls.specs.declared.call.Call.TheVariants as call
use Rattle.zone_cases.specs.Session.Logins.{status_of, with_status}
use Rattle.zone_cases.specs.State.Decisions.{tells}
use Rattle.zone_cases.specs.declared.cases.Errand.TheVariants.{Lists}
use Rattle.zone_cases.specs.declared.replies.Body.TheVariants.{Processes}
use Rattle.zone_cases.specs.declared.replies.Head.TheVariants.{Status}

last-is : (r : ProcRow) (xs : List ProcRow) (y : ProcRow) → last_row r (xs ++ y ∷ []) ≡ y
last-is r [] y = refl
last-is r (x ∷ xs) y = last-is x xs y

without-last : (xs : List ProcRow) (y : ProcRow) → but_last (xs ++ y ∷ []) ≡ xs
without-last [] y = refl
without-last (x ∷ []) y = refl
without-last (x ∷ z ∷ xs) y = ap (λ rows. x ∷ rows) (without-last (z ∷ xs) y)

put-rows : (n : ℕ) (p : Process) (ps : List Process) → map row_of (put (below n) p ps) ≡ put (λ r. nat_lt r.pid n) (row_of p) (map row_of ps)
put-rows n p [] = refl
put-rows n p (q ∷ qs) = at_test (nat_lt q.pid n) (put-rows n p qs)
  where
    at_test : (b : Bool) → map row_of (put (below n) p qs) ≡ put (λ r. nat_lt r.pid n) (row_of p) (map row_of qs)
        → map row_of (if b then q ∷ put (below n) p qs else p ∷ q ∷ qs) ≡ (if b then row_of q ∷ put (λ r. nat_lt r.pid n) (row_of p) (map row_of qs) else row_of p ∷ row_of q ∷ map row_of qs)
    at_test true rest = ap (λ rows. row_of q ∷ rows) rest
    at_test false rest = refl

module _ (n : ℕ) (p : Process) (name : List ℕ) (pid : p.pid ≡ n) (parent : p.parent ≡ 0) (named : p.name ≡ name) where
  abbrev own : ProcRow
  own = record { pid = 0; parent = 0; name = name }

  same : row_of p ≡ record own { pid = n }
  same = λ i. record { pid = pid i; parent = parent i; name = named i }

  put-placed : (xs : List ProcRow) → put (λ r. nat_lt r.pid n) (row_of p) xs ≡ placed n (xs ++ own ∷ [])
  put-placed [] = ap (λ r. r ∷ []) same
  put-placed (x ∷ xs) = (λ i. put (λ r. nat_lt r.pid n) (same i) (x ∷ xs)) ∙ sym (λ i. put (λ r. nat_lt r.pid n) (record (last-is x xs own i) { pid = n }) (without-last (x ∷ xs) own i))

pub listed : (n : ℕ) (p : Process) (name : List ℕ) (rows : List ProcRow) (ps : List Process) → p.pid ≡ n → p.parent ≡ 0 → p.name ≡ name → rows ≡ map row_of ps ++ record { pid = 0; parent = 0; name = name } ∷ []
    → with_status 0 (tells (Processes (map row_of (put (below n) p ps)))) ≡ errand_effect n (Lists rows)
listed n p name rows ps pid parent named is =
    ap (λ (told : List ProcRow). record { edits = []; reply = record { head = Status 0; body = Processes told } }) (put-rows n p ps ∙ put-placed n p name pid parent named (map row_of ps) ∙ ap (placed n) (sym is))

-- what is known of a result, where there is one
pub if_ok : {T E : Type 0} {P Q : T → Type 0} (r : Result T E) → ((x : T) → P x → Q x) → IfOk r P → IfOk r Q
if_ok (Ok x) f h = f x h
if_ok (Err e) f h = tt

-- the status of any call but one
pub well_done : (c : Call) → (c ≡ call.False → ⊥) → status_of c ≡ 0
well_done call.False h = absurd (h refl)
well_done c h = refl
