-- A line is cut as it was made.
use Rattle.std.proofs.Common.{◌≡◌, ℕ, ◌+◌, ◌-◌, ◌≤◌, List, [], ◌∷◌, ◌++◌, length, length-append, append_assoc, take, drop, Some, refl, sym, ap, ◌∙◌, arith}
use Rattle.std.proofs.lemmas.List.{append-nil, take_at}
use Rattle.std.proofs.Math.Seq.{drop-append-add, take-append-add}
use Rattle.uuid_text.specs.Text.{uuid_text}
use Rattle.zn_base.specs.Cuts.{after_byte, before_byte}
use Rattle.zn_base.specs.Lines.{newline}
use Rattle.zn_base.specs.States.{state_text}
use Rattle.zn_base.proofs.First_byte.{after_first, before_first}
use Rattle.zn_base.proofs.Read_back.{name_lacks, state_lacks}
use Rattle.index_file.specs.declared.rows.IndexRow.{IndexRow}
use Rattle.index_file.specs.Index.{colon, escaped, line_text, IsIndexRow}

-- what stands before the newline of a row's line
abbrev pub front : IndexRow → List ℕ
front row = row.name ++ colon ∷ (state_text row.state ++ colon ∷ (escaped row.path ++ colon ∷ uuid_text row.uuid))

right : (a b c d more : List ℕ) (x y z w : ℕ) → (a ++ x ∷ b ++ y ∷ c ++ z ∷ d ++ w ∷ []) ++ more ≡ a ++ x ∷ (b ++ y ∷ (c ++ z ∷ (d ++ w ∷ more)))
right a b c d more x y z w =
    append_assoc (a ++ x ∷ b ++ y ∷ c ++ z ∷ d) (w ∷ []) more
    ∙ append_assoc (a ++ x ∷ b ++ y ∷ c) (z ∷ d) (w ∷ more)
    ∙ append_assoc (a ++ x ∷ b) (y ∷ c) (z ∷ (d ++ w ∷ more))
    ∙ append_assoc a (x ∷ b) (y ∷ (c ++ z ∷ (d ++ w ∷ more)))

behind_front : (a b c d more : List ℕ) (x y z : ℕ) → (a ++ x ∷ (b ++ y ∷ (c ++ z ∷ d))) ++ more ≡ a ++ x ∷ (b ++ y ∷ (c ++ z ∷ (d ++ more)))
behind_front a b c d more x y z =
    append_assoc a (x ∷ (b ++ y ∷ (c ++ z ∷ d))) more
    ∙ ap (λ l. a ++ x ∷ l) (append_assoc b (y ∷ (c ++ z ∷ d)) more ∙ ap (λ l. b ++ y ∷ l) (append_assoc c (z ∷ d) more))

-- a line, field by field
pub line_parts : (row : IndexRow) (more : List ℕ) → line_text row ++ more ≡ row.name ++ colon ∷ (state_text row.state ++ colon ∷ (escaped row.path ++ colon ∷ (uuid_text row.uuid ++ newline ∷ more)))
unfolding line_text
line_parts row more = right row.name (state_text row.state) (escaped row.path) (uuid_text row.uuid) more colon colon colon newline

-- a line ends with its newline
pub line_ends : (row : IndexRow) (more : List ℕ) → line_text row ++ more ≡ front row ++ newline ∷ more
line_ends row more =
    line_parts row more
    ∙ sym (behind_front row.name (state_text row.state) (escaped row.path) (uuid_text row.uuid) (newline ∷ more) colon colon colon)

pub line_alone : (row : IndexRow) → line_text row ≡ front row ++ newline ∷ []
line_alone row = sym (append-nil (line_text row)) ∙ line_ends row []

pub first_line_is : (text : List ℕ) (row : IndexRow) (more : List ℕ) (end : ℕ) → text ≡ front row ++ newline ∷ more → end ≡ length (front row) → take (end + 1) text ≡ line_text row
first_line_is text row more end ends at =
    rw (ends, at, take-append-add (front row) (newline ∷ more) 1) (sym (line_alone row))

-- the last two fields are cut off the end
pub last_fields : (path uuid rest : List ℕ) → length uuid ≡ 36 → rest ≡ path ++ colon ∷ (uuid ++ newline ∷ []) →
    (38 ≤ length rest) × (take (length rest - 1 - 36 - 1) rest ≡ path) × (take (length rest - 1 - (length rest - 1 - 36)) (drop (length rest - 1 - 36) rest) ≡ uuid)
last_fields path uuid rest len is =
    let whole : length rest ≡ length path + 38 = rw is (omega (arith, length-append path (colon ∷ (uuid ++ newline ∷ [])), length-append uuid (newline ∷ []))) in
    let start : length rest - 1 - 36 ≡ length path + 1 = omega arith in
    let before : length rest - 1 - 36 - 1 ≡ length path = omega arith in
    let size : length rest - 1 - (length path + 1) ≡ 36 = omega arith in (
      omega arith,
      rw before (rw is (take_at path (colon ∷ (uuid ++ newline ∷ [])) (length path) refl)),
      rw (start, size, is, drop-append-add path (colon ∷ (uuid ++ newline ∷ [])) 1) (take_at uuid (newline ∷ []) 36 len),
    )

-- what stands after the name of a line and its colon, and after the state and its colon
abbrev pub behind_state : IndexRow → List ℕ
behind_state row = escaped row.path ++ colon ∷ (uuid_text row.uuid ++ newline ∷ [])

abbrev pub behind_name : IndexRow → List ℕ
behind_name row = state_text row.state ++ colon ∷ behind_state row

pub line_named : (line : List ℕ) (row : IndexRow) → line ≡ line_text row → line ≡ row.name ++ colon ∷ behind_name row
line_named line row same = same ∙ sym (append-nil (line_text row)) ∙ line_parts row []

-- the fields of a line, one after the other
pub name_cut : (line : List ℕ) (row : IndexRow) → IsIndexRow row → line ≡ line_text row → (before_byte colon line ≡ row.name) × (after_byte colon line ≡ Some (behind_name row))
name_cut line row is same =
    let lacked = name_lacks colon refl row.name is.name in
    let named = line_named line row same in
    (before_first colon line row.name (behind_name row) lacked named, after_first colon line row.name (behind_name row) lacked named)

pub state_cut : (rest : List ℕ) (row : IndexRow) → rest ≡ behind_name row → (before_byte colon rest ≡ state_text row.state) × (after_byte colon rest ≡ Some (behind_state row))
state_cut rest row is =
    let lacked = state_lacks colon refl row.state in
    (before_first colon rest (state_text row.state) (behind_state row) lacked is, after_first colon rest (state_text row.state) (behind_state row) lacked is)
