-- A record is asked by its length, which doesn't hang on its number and its UUID.
use Rattle.std.proofs.Common.{◌≡◌, ℕ, List, [], ◌∷◌, Some, length, refl, ap, sym, ◌∙◌}
use Rattle.commit_journal.proofs.Lengths.{same_length}
use Rattle.commit_journal.specs.Bodies.{record_text}
use Rattle.commit_journal.specs.Uuids.{uuid_of}
use Rattle.commit_journal.specs.declared.records.Record.{Record}
use Rattle.config_terms.specs.Fields.{path_text}
use Rattle.zn_base.specs.Names.{Name}
use Rattle.zone_pools.specs.Asked.{A_path, A_serial, A_zone}
use Rattle.zoneadmd_steps.specs.Arrivals.{record_asked}
use Rattle.zone_machine.specs.Code.Needs.{sized}

module _ (size : ℕ) (r : Record) (is : size ≡ length (record_text r)) where
  asked-sized : sized size ≡ record_asked (λ n. Some r)
  asked-sized = ap (λ s. A_serial (λ n. s)) is

  numbered-sized : sized size ≡ record_asked (λ n. Some (record r { revision = n }))
  numbered-sized = λ i. A_serial (λ n. (is ∙ sym (same_length (record r { revision = n }) r refl refl)) i)

  made-sized : (z : Name) → sized size ≡ record_asked (λ n. Some (record r { uuid = uuid_of z n; revision = n }))
  made-sized z = λ i. A_serial (λ n. (is ∙ sym (same_length (record r { uuid = uuid_of z n; revision = n }) r refl refl)) i)

-- by the record of a row
module _ (size : ℕ) (r s : Record) (same : r ≡ s) (is : size ≡ length (record_text r)) where
  pub record-asked : sized size ∷ [] ≡ record_asked (λ n. Some s) ∷ []
  record-asked = ap (λ a. a ∷ []) (asked-sized size s (is ∙ ap (λ r. length (record_text r)) same))

  pub record-numbered : sized size ∷ [] ≡ record_asked (λ n. Some (record s { revision = n })) ∷ []
  record-numbered = ap (λ a. a ∷ []) (numbered-sized size s (is ∙ ap (λ r. length (record_text r)) same))

  pub record-moved : (path : List ℕ) → path ≡ path_text r.config.zonepath → A_path path ∷ sized size ∷ [] ≡ A_path (path_text s.config.zonepath) ∷ record_asked (λ n. Some (record s { revision = n })) ∷ []
  record-moved path at = ap (λ p. A_path p ∷ sized size ∷ []) (at ∙ ap (λ (r : Record). path_text r.config.zonepath) same) ∙ ap (λ a. A_path (path_text s.config.zonepath) ∷ a) record-numbered

  pub record-made : (path : List ℕ) → path ≡ path_text r.config.zonepath → (z : Name) → A_zone ∷ A_path path ∷ sized size ∷ [] ≡ A_zone ∷ A_path (path_text s.config.zonepath) ∷ record_asked (λ n. Some (record s { uuid = uuid_of z n; revision = n })) ∷ []
  record-made path at z =
      ap (λ p. A_zone ∷ A_path p ∷ sized size ∷ []) (at ∙ ap (λ (r : Record). path_text r.config.zonepath) same)
      ∙ ap (λ a. A_zone ∷ A_path (path_text s.config.zonepath) ∷ a ∷ []) (made-sized size s (is ∙ ap (λ r. length (record_text r)) same) z)
