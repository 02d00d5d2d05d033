-- The zones of a map, as stored zones.
use Rattle.std.proofs.Common.{◌≡◌, Bool, true, false, List, [], ◌∷◌, Option, Some, None, refl, ap, sym}
use Rattle.std.specs.Prelude.{bytes_eq}
use Rattle.std.specs.Map.{lookup, remove_entry}
use Rattle.std.specs.Option.{is_some}
use Rattle.indexmap.specs.IndexMap.{insert_entry}
use Rattle.zone_pools.specs.Firsts.{placed}
use Rattle.zn_base.specs.Names.{Name}
use Rattle.zone_pools.proofs.Owned_laws.{same_true}
use Rattle.zone_pools.specs.Owned_lists.{tag}
use Rattle.commit_journal.specs.declared.records.Record.{Record}
use Rattle.commit_journal.specs.Store.{row_of}
use Rattle.commit_journal.specs.Stored.{holds, without, Rows}
use Rattle.commit_journal.specs.Zones.{rows_of}

abbrev Entries : Type 0
Entries = List (Name × Record)

pub row_is : (z : Name) (es : Entries) → row_of z (rows_of es) ≡ lookup (bytes_eq z) es
row_is z [] = refl
row_is z (e ∷ es) = at_head (row_is z es) (bytes_eq z e.0) refl
  where
    at_head : row_of z (rows_of es) ≡ lookup (bytes_eq z) es → (b : Bool) → bytes_eq z e.0 ≡ b → row_of z (rows_of (e ∷ es)) ≡ lookup (bytes_eq z) (e ∷ es)
    at_head ih true h = simp h
    at_head ih false h = simp h ih

pub held_is : (z : Name) (es : Entries) → holds z (rows_of es) ≡ is_some (lookup (bytes_eq z) es)
held_is z [] = refl
held_is z (e ∷ es) = at_head (held_is z es) (bytes_eq z e.0) refl
  where
    at_head : holds z (rows_of es) ≡ is_some (lookup (bytes_eq z) es) → (b : Bool) → bytes_eq z e.0 ≡ b → holds z (rows_of (e ∷ es)) ≡ is_some (lookup (bytes_eq z) (e ∷ es))
    at_head ih true h = simp h
    at_head ih false h = simp h ih

-- a name that is there stays, and is the same
pub placed_is : (z : Name) (row : Record) (es : Entries) → rows_of (insert_entry bytes_eq es z row) ≡ placed z row (rows_of es)
placed_is z row [] = refl
placed_is z row (e ∷ es) = at_head (placed_is z row es) (bytes_eq z e.0) refl
  where
    at_head : rows_of (insert_entry bytes_eq es z row) ≡ placed z row (rows_of es) → (b : Bool) → bytes_eq z e.0 ≡ b → rows_of (insert_entry bytes_eq (e ∷ es) z row) ≡ placed z row (rows_of (e ∷ es))
    at_head ih true h = simp h (ap (λ (y : Name). tag y row ∷ rows_of es) (sym (same_true z e.0 h)))
    at_head ih false h = simp h (ap (λ (rows : Rows). tag e.0 e.1 ∷ rows) ih)

some_none : (row : Record) → ◌≡◌ {A = Option Record} (Some row) None → ⊥
some_none row e = cc

without_none : (z : Name) (es : Entries) → lookup (bytes_eq z) es ≡ None → rows_of es ≡ without z (rows_of es)
without_none z [] none = refl
without_none z (e ∷ es) none = at_head (without_none z es) (bytes_eq z e.0) refl
  where
    at_head : (lookup (bytes_eq z) es ≡ None → rows_of es ≡ without z (rows_of es)) → (b : Bool) → bytes_eq z e.0 ≡ b → rows_of (e ∷ es) ≡ without z (rows_of (e ∷ es))
    at_head ih true h = let found : ◌≡◌ {A = Option Record} (Some e.1) None = (simp h at none) in absurd (some_none e.1 found)
    at_head ih false h = let rest : lookup (bytes_eq z) es ≡ None = (simp h at none) in simp h (ap (λ (rows : Rows). tag e.0 e.1 ∷ rows) (ih rest))

-- no name stands twice in a map, so where one entry of a zone goes, all go
pub without_is : (z : Name) (es : Entries) → lookup (bytes_eq z) (remove_entry (bytes_eq z) es) ≡ None → rows_of (remove_entry (bytes_eq z) es) ≡ without z (rows_of es)
without_is z [] none = refl
without_is z (e ∷ es) none = at_head (without_is z es) (bytes_eq z e.0) refl
  where
    at_head : (lookup (bytes_eq z) (remove_entry (bytes_eq z) es) ≡ None → rows_of (remove_entry (bytes_eq z) es) ≡ without z (rows_of es))
        → (b : Bool) → bytes_eq z e.0 ≡ b → rows_of (remove_entry (bytes_eq z) (e ∷ es)) ≡ without z (rows_of (e ∷ es))
    at_head ih true h = let rest : lookup (bytes_eq z) es ≡ None = (simp h at none) in simp h (without_none z es rest)
    at_head ih false h = let rest : lookup (bytes_eq z) (remove_entry (bytes_eq z) es) ≡ None = (simp (h, h) at none) in simp h (ap (λ (rows : Rows). tag e.0 e.1 ∷ rows) (ih rest))
