-- Pieces of which each is a text.
use Rattle.std.proofs.Common.{◌≡◌, ◌<◌, ℕ, true, false, cond, List, length, get_or, Some, None, refl, ap, sym, ◌∙◌}
use Rattle.std.specs.List.{list_all}
use Rattle.std.proofs.lemmas.List.Folds.{list_all_at}
use Rattle.zn_base.specs.Text.{is_text}
use Rattle.export_read.specs.Reading.{texts_among}

no_text : (bytes : List ℕ) → cond (is_text bytes) (Some bytes) None ≡ None → is_text bytes ≡ false
no_text bytes h = elim (is_text bytes) as (λ v. cond v (Some bytes) None ≡ None → v ≡ false) [ true ↦ λ e. absurd (cc) | false ↦ λ e. refl ] h

-- texts that are the pieces so far
pub record AreTexts (texts pieces : List (List ℕ)) : Type 0 where
  pub all : texts ≡ pieces
  pub each : list_all is_text texts ≡ true

-- a piece that is none
pub refused_piece : (pieces : List (List ℕ)) (i : ℕ) (piece : List ℕ) → (i < length pieces) × (piece ≡ get_or pieces i piece) → cond (is_text piece) (Some piece) None ≡ None → None ≡ texts_among pieces
refused_piece pieces i piece at none =
    let whole : list_all is_text pieces ≡ false = list_all_at is_text pieces i piece at.0 (ap is_text (sym at.1) ∙ no_text piece none) in
    rw whole refl

pub all_taken : (texts pieces whole : List (List ℕ)) → AreTexts texts pieces → pieces ≡ whole → Some texts ≡ texts_among whole
all_taken texts pieces whole h end =
    let same : texts ≡ whole = h.all ∙ end in
    let each : list_all is_text whole ≡ true = ap (list_all is_text) (sym same) ∙ h.each in
    rw each (ap (λ (l : List (List ℕ)). Some l) same)
