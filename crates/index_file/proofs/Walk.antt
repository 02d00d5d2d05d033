-- One line more of an index, and a line that names a zone again.
use Rattle.std.proofs.Common.{◌≡◌, ◌≢◌, ℕ, ◌+◌, List, [], ◌∷◌, ◌++◌, length, append_assoc, get_or, sym, ap, ◌∙◌}
use Rattle.std.specs.List.{Any}
use Rattle.std.proofs.lemmas.List.{flat_map_more, get_or_default}
use Rattle.std.proofs.lemmas.List.Elements.{All-push}
use Rattle.std.proofs.lemmas.List.Quantifiers.{all_pairs_push}
use Rattle.index_file.specs.declared.rows.IndexRow.{IndexRow}
use Rattle.index_file.specs.Index.{index_text, line_text, IsIndex, IsIndexRow}
use Rattle.index_file.specs.Reading.{IsRepeat}

-- no row has the name
abbrev pub IsNewName : List IndexRow → List ℕ → Type 0
IsNewName rows name = Any (λ r. r.name ≡ name) rows → ⊥

pub index_push : (rows : List IndexRow) (row : IndexRow) → IsIndex rows → IsIndexRow row → IsNewName rows row.name → IsIndex (rows ++ row ∷ [])
index_push rows row index is fresh = record {
  each = All-push IsIndexRow rows row index.each is;
  names = all_pairs_push (λ (a b : IndexRow). a.name ≢ b.name) rows row index.names (λ k d inside same. fresh (k, get_or rows k d, inside, get_or_default rows k (get_or rows k d) d inside, same));
}

pub lines_push : (text : List ℕ) (rows : List IndexRow) (row : IndexRow) (line behind rest : List ℕ) → text ≡ index_text rows ++ rest → rest ≡ line ++ behind → line ≡ line_text row → text ≡ index_text (rows ++ row ∷ []) ++ behind
lines_push text rows row line behind rest whole cut is =
    whole ∙ ap (λ (l : List ℕ). index_text rows ++ l) (cut ∙ ap (λ (l : List ℕ). l ++ behind) is)
    ∙ sym (append_assoc (index_text rows) (line_text row) behind)
    ∙ ap (λ (l : List ℕ). l ++ behind) (flat_map_more line_text [] rows row)

pub repeats : (text : List ℕ) (rows : List IndexRow) (row : IndexRow) (line behind rest : List ℕ) (number : ℕ) → IsIndex rows → text ≡ index_text rows ++ rest → rest ≡ line ++ behind → IsIndexRow row → line ≡ line_text row
    → Any (λ r. r.name ≡ row.name) rows → number ≡ length rows + 1 → IsRepeat text number
repeats text rows row line behind rest number index whole cut is same earlier count = record {
  rows = rows;
  rest = rest;
  row = row;
  goes_on = record { before = index; lines = whole; counted = count };
  is_row = is;
  line = (behind, cut ∙ ap (λ (l : List ℕ). l ++ behind) same);
  earlier = earlier;
}
