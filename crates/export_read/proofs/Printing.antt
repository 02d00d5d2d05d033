-- Names that are found are printable.
use Rattle.std.proofs.Common.{◌≡◌, ℕ, Bool, true, false, cond, not, List, [], ◌∷◌, Some, refl, ap, sym, ◌∙◌}
use Rattle.std.specs.Prelude.{find}
use Rattle.std.proofs.lemmas.Bool.{and_parts}
use Rattle.zn_base.specs.Text.{is_text}
use Rattle.config_terms.specs.Fields.{field_rule}
use Rattle.config_terms.specs.Rules.{fits}
use Rattle.config_terms.specs.declared.fields.Field.{Field}
use Rattle.export_read.proofs.Printable.{fits-set, obeys-text, field_of_text}
use Rattle.export_read.specs.Names.{bare_bytes, is_free}

-- what is found passes the test
found : (p : ℕ → Bool) (bs : List ℕ) (b : ℕ) → find p bs ≡ Some b → p b ≡ true
found p [] b h = absurd (cc)
found p (c ∷ bs) b h =
    elim (p c) as (λ v. p c ≡ v → cond v (Some c) (find p bs) ≡ Some b → p b ≡ true) [
      | true ↦ λ e g. let same : c ≡ b = cc in ap p (sym same) ∙ e
      | false ↦ λ e g. found p bs b g
    ] refl h

free_text : (key : Field) (used : List ℕ → Bool) (b : ℕ) (w : List ℕ) → is_free (field_rule key) used (b ∷ w) ≡ true → is_text (b ∷ w) ≡ true
free_text key used b w h =
    let fit : (fits (field_rule key) (b ∷ w) ≡ true) × (not (used (b ∷ w)) ≡ true) = and_parts _ _ h in
    obeys-text (field_rule key) (b ∷ w) (field_of_text key) (fits-set (field_rule key) b w fit.0)

pub found_one : (key : Field) (used : List ℕ → Bool) (b : ℕ) → find (λ b. is_free (field_rule key) used (b ∷ [])) bare_bytes ≡ Some b → is_text (b ∷ []) ≡ true
found_one key used b h = free_text key used b [] (found (λ b. is_free (field_rule key) used (b ∷ [])) bare_bytes b h)

pub found_pair : (key : Field) (used : List ℕ → Bool) (a b : ℕ) → find (λ b. is_free (field_rule key) used (a ∷ (b ∷ []))) bare_bytes ≡ Some b → is_text (a ∷ (b ∷ [])) ≡ true
found_pair key used a b h = free_text key used a (b ∷ []) (found (λ b. is_free (field_rule key) used (a ∷ (b ∷ []))) bare_bytes b h)
