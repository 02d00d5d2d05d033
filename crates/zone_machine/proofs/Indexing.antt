-- The index of the first stored zones, and of one more.
use Rattle.std.proofs.Common.{◌≡◌, [], ◌∷◌, ◌++◌, ◌+◌, ℕ, zero, suc, List, arith, map, take, refl, ap}
use Rattle.std.specs.Prelude.{slice_get}
use Rattle.zn_base.specs.Names.{Name}
use Rattle.zone_pools.specs.Owned_lists.{tag}
use Rattle.commit_journal.specs.Zones.{rows_of}
use Rattle.commit_journal.specs.declared.records.Record.{Record}
use Rattle.index_file.specs.declared.rows.IndexRow.{IndexRow}
use Rattle.zone_machine.specs.Machine.Indexed.{index_row, row_at}

abbrev pub indexed : List (Name × Record) → List IndexRow
indexed es = map index_row (rows_of es)

next_row : (es : List (Name × Record)) (i : ℕ) → indexed (take (suc i) es) ≡ indexed (take i es) ++ row_at (slice_get es i)
next_row [] zero = refl
next_row [] (suc i) = refl
next_row (x ∷ es) zero = refl
next_row (x ∷ es) (suc i) = ap (λ l. index_row (tag x.0 x.1) ∷ l) (next_row es i)

pub indexed_next : (es : List (Name × Record)) (i : ℕ) → indexed (take (i + 1) es) ≡ indexed (take i es) ++ row_at (slice_get es i)
indexed_next es i = let next : i + 1 ≡ suc i = omega arith in rw next (next_row es i)
