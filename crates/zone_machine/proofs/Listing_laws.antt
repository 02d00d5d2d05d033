-- The lines of the first stored zones, and of one more; and of all of them in a state that the machine's parts stand for.
use Rattle.std.proofs.Common.{◌≡◌, [], ◌∷◌, ◌++◌, ◌+◌, ◌∙◌, ℕ, zero, suc, Bool, true, false, List, arith, append_assoc, ap, sym, filter, map, refl, take}
use Rattle.std.specs.Prelude.{slice_get}
use Rattle.commit_journal.specs.Zones.{rows_of}
use Rattle.commit_journal.specs.declared.records.Record.{Record}
use Rattle.zn_base.specs.Names.{Name}
use Rattle.zone_pools.specs.declared.owned.Owned.{Owned}
use Rattle.zone_machine.proofs.Stepping.{world-stands}
use Rattle.zone_machine.specs.Code.Cells.{Stands}
use Rattle.zone_machine.specs.Code.Listed.{row_in_parts, told_entries, told_entry, told_rows}
use Rattle.zone_cases.specs.Session.Listed.{Zone_row, global_rows, header, is_listed, list_zones, listing, row_now, row_text}
use Rattle.zone_cases.specs.State.{State}
use Rattle.zone_machine.specs.declared.machine.parts.Parts.{Parts}
use Rattle.zone_cases.specs.declared.session.listing.Options.{Options}

module _ (o : Options) where
  -- one row before others
  pub told_first : (r : Zone_row) (rows : List Zone_row) → told_rows o (r ∷ rows) ≡ told_rows o (r ∷ []) ++ told_rows o rows
  told_first r rows = at_test (is_listed o r.state) refl
    where
      at_test : (b : Bool) → is_listed o r.state ≡ b → told_rows o (r ∷ rows) ≡ told_rows o (r ∷ []) ++ told_rows o rows
      at_test true e = simp e refl
      at_test false e = simp e refl

  pub texts : (rows more : List Zone_row) → map (row_text o.form) (rows ++ more) ≡ map (row_text o.form) rows ++ map (row_text o.form) more
  texts [] more = refl
  texts (r ∷ rows) more = ap (λ l. row_text o.form r ∷ l) (texts rows more)

  module _ (p : Parts) where
    next_entry : (es : List (Name × Record)) (i : ℕ) → told_entries o p (take (suc i) es) ≡ told_entries o p (take i es) ++ told_entry o p (slice_get es i)
    next_entry [] zero = refl
    next_entry [] (suc i) = refl
    next_entry (x ∷ es) zero = refl
    next_entry (x ∷ es) (suc i) =
        let r : Zone_row = row_in_parts p x.0 x.1 in
        told_first r (map (λ e. row_in_parts p e.0 e.1) (take (suc i) es))
        ∙ (ap (λ l. told_rows o (r ∷ []) ++ l) (next_entry es i)
        ∙ (sym (append_assoc (told_rows o (r ∷ [])) (told_entries o p (take i es)) (told_entry o p (slice_get es i)))
        ∙ ap (λ l. l ++ told_entry o p (slice_get es i)) (sym (told_first r (map (λ e. row_in_parts p e.0 e.1) (take i es))))))

    pub told_next : (es : List (Name × Record)) (i : ℕ) → told_entries o p (take (i + 1) es) ≡ told_entries o p (take i es) ++ told_entry o p (slice_get es i)
    told_next es i = let next : i + 1 ≡ suc i = omega arith in rw next (next_entry es i)

    -- the rows of the stored zones
    rows_of_entries : (es : List (Name × Record)) → map (λ (r : Owned Record). row_in_parts p r.zone r.it) (rows_of es) ≡ map (λ e. row_in_parts p e.0 e.1) es
    rows_of_entries [] = refl
    rows_of_entries (x ∷ es) = ap (λ l. row_in_parts p x.0 x.1 ∷ l) (rows_of_entries es)

    rows-stand : (S : State) → Stands S p → list_zones o S ≡ global_rows o.no_global ++ filter (λ r. is_listed o r.state) (map (λ e. row_in_parts p e.0 e.1) p.shared.rows.entries)
    rows-stand S h =
        (λ i. global_rows o.no_global ++ filter (λ r. is_listed o r.state) (map (λ (r : Owned Record). row_now r.zone r.it (world-stands S p r.zone h i).desk (world-stands S p r.zone h i).ids) (h.shared i).rows))
        ∙ ap (λ rows. global_rows o.no_global ++ filter (λ r. is_listed o r.state) rows) (rows_of_entries p.shared.rows.entries)

    -- the lines before them, and then theirs
    pub lists-zones : (S : State) → Stands S p → listing o.form (global_rows o.no_global) ++ told_entries o p p.shared.rows.entries ≡ listing o.form (list_zones o S)
    lists-zones S h =
        let more : List Zone_row = filter (λ r. is_listed o r.state) (map (λ e. row_in_parts p e.0 e.1) p.shared.rows.entries) in
        append_assoc (header o.form) (map (row_text o.form) (global_rows o.no_global)) (map (row_text o.form) more)
        ∙ ap (λ l. header o.form ++ l) (sym (texts (global_rows o.no_global) more) ∙ ap (map (row_text o.form)) (sym (rows-stand S h)))
