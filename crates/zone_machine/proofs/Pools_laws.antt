-- The stored zones, as what the pools know of them.
use Rattle.std.proofs.Common.{◌≡◌, ◌∷◌, [], ℕ, zero, suc, ◌+◌, List, Bool, true, false, not, ◌&&◌, ◌||◌, arith, length, take, refl, ap, sym}
use Rattle.std.specs.Prelude.{bytes_eq, slice_get}
use Rattle.std.proofs.lemmas.Bool.{true≢false}
use Rattle.zn_base.specs.Names.{Name}
use Rattle.commit_journal.specs.Zones.{rows_of}
use Rattle.zone_machine.specs.Code.Needs.{takes_path}
use Rattle.zone_machine.specs.Machine.Pools.{is_path, path_taken}
use Rattle.commit_journal.specs.declared.records.Record.{Record}

pub count_rows : (entries : List (Name × Record)) → length (rows_of entries) ≡ length entries
count_rows [] = refl
count_rows (e ∷ entries) = ap suc (count_rows entries)

-- a stored zone other than z has a path
pub taken_at : (z : Name) (path : List ℕ) (es : List (Name × Record)) (i : ℕ) → takes_path z path (slice_get es i) ≡ true → path_taken (rows_of es) z path ≡ true
taken_at z path [] i h = absurd (true≢false (sym h))
taken_at z path (e ∷ es) zero h = simp h
taken_at z path (e ∷ es) (suc i) h = at_head (taken_at z path es i h) (not (bytes_eq z e.0) && is_path path e.1.config.zonepath)
  where
    at_head : {b : Bool} → b ≡ true → (a : Bool) → (a || b) ≡ true
    at_head e true = refl
    at_head e false = e

taken_next : (z : Name) (path : List ℕ) (es : List (Name × Record)) (i : ℕ) → path_taken (rows_of (take i es)) z path ≡ false → takes_path z path (slice_get es i) ≡ false
    → path_taken (rows_of (take (suc i) es)) z path ≡ false
taken_next z path [] i h k = refl
taken_next z path (e ∷ es) zero h k = simp k
taken_next z path (e ∷ es) (suc i) h k = at_head (taken_next z path es i) (not (bytes_eq z e.0) && is_path path e.1.config.zonepath) h
  where
    at_head : (path_taken (rows_of (take i es)) z path ≡ false → takes_path z path (slice_get es i) ≡ false → path_taken (rows_of (take (suc i) es)) z path ≡ false)
        → (a : Bool) → (a || path_taken (rows_of (take i es)) z path) ≡ false → (a || path_taken (rows_of (take (suc i) es)) z path) ≡ false
    at_head ih true h = h
    at_head ih false h = ih h k

pub not_taken : (z : Name) (path : List ℕ) (es : List (Name × Record)) (i : ℕ) → path_taken (rows_of (take i es)) z path ≡ false → takes_path z path (slice_get es i) ≡ false
    → path_taken (rows_of (take (i + 1) es)) z path ≡ false
not_taken z path es i h k = let next : i + 1 ≡ suc i = omega arith in rw next (taken_next z path es i h k)
