-- A text is read in one way.
use Rattle.std.proofs.Common.{◌≡◌, ◌≢◌, ℕ, ◌+◌, false, List, [], ◌∷◌, ◌++◌, length, length-append, append_assoc, get_or, All, Result, Ok, Err, ◌⊎◌, inl, inr, refl, sym, ap, ◌∙◌, subst, arith}
use Rattle.std.specs.List.{Any}
use Rattle.std.proofs.lemmas.List.{append-nil, get_or_append_left, get_or_default}
use Rattle.std.proofs.Math.Seq.{get_or-append_seam}
use Rattle.std.proofs.lemmas.List.Elements.{All-head, All-tail}
use Rattle.uuid_text.specs.Text.{uuid_text}
use Rattle.uuid_text.proofs.Texts.{uuid_of_text, uuid_text-length}
use Rattle.zn_base.specs.Lines.{newline}
use Rattle.zn_base.specs.States.{state_text}
use Rattle.zn_base.proofs.First_byte.{cut_alike}
use Rattle.zn_base.proofs.Read_back.{name_lacks, state_lacks, state_of_text}
use Rattle.zn_base.specs.declared.state.ZoneState.{ZoneState}
use Rattle.index_file.specs.declared.fault.IndexFault.{IndexFault}
use Rattle.index_file.specs.declared.fault.IndexFault.TheVariants.{Memory, IndexLine, SameName}
use Rattle.index_file.specs.declared.rows.IndexRow.{IndexRow}
use Rattle.index_file.specs.Index.{colon, escaped, index_text, line_text, IsIndex, IsIndexRow}
use Rattle.index_file.specs.Reading.{BeginsWithLine, ReadsAs}
use Rattle.index_file.specs.OneReading.{OneRowALine, OneTextForRows, PrintedReadsBack, ReadsOneWay}
use Rattle.index_file.proofs.Escapes.{unescaped, unescaped-escaped}
use Rattle.index_file.proofs.Lines.{behind_name, behind_state, front, last_fields, line_alone, line_ends, line_named}
use Rattle.index_file.proofs.Parts.{front_lacks_newline}

path_of_text : (a b : List ℕ) → escaped a ≡ escaped b → a ≡ b
path_of_text a b same = sym (unescaped-escaped a) ∙ ap (unescaped false) same ∙ unescaped-escaped b

-- the fields make the row
abbrev row_of : List ℕ → ZoneState → List ℕ → List ℕ → IndexRow
row_of name state path uuid = record { name = name; state = state; path = path; uuid = uuid }

row_is : (a b : IndexRow) → a.name ≡ b.name → a.state ≡ b.state → a.path ≡ b.path → a.uuid ≡ b.uuid → a ≡ b
row_is a b name state path uuid =
    let same : row_of a.name a.state a.path a.uuid ≡ row_of b.name b.state b.path b.uuid = cc in
    same

pub one_row : OneRowALine
one_row a b f g same =
    let names = cut_alike colon a.name (behind_name a) b.name (behind_name b) (name_lacks colon refl a.name f.name) (name_lacks colon refl b.name g.name)
    (sym (line_named (line_text a) a refl) ∙ line_named (line_text a) b same) in
    let states = cut_alike colon (state_text a.state) (behind_state a) (state_text b.state) (behind_state b) (state_lacks colon refl a.state) (state_lacks colon refl b.state) names.1 in
    let of_a = last_fields (escaped a.path) (uuid_text a.uuid) (behind_state a) (uuid_text-length a.uuid) refl in
    let of_b = last_fields (escaped b.path) (uuid_text b.uuid) (behind_state a) (uuid_text-length b.uuid) states.1 in
    row_is a b names.0 (state_of_text a.state b.state f.state g.state states.0) (path_of_text a.path b.path (sym of_a.1 ∙ of_b.1))
    (uuid_of_text a.uuid b.uuid f.uuid g.uuid (sym of_a.2 ∙ of_b.2))

-- texts that begin with a line each are cut after one row
line_cut : (a b : IndexRow) (x y : List ℕ) → IsIndexRow a → IsIndexRow b → line_text a ++ x ≡ line_text b ++ y → (a ≡ b) × (x ≡ y)
line_cut a b x y f g same =
    let cut = cut_alike newline (front a) x (front b) y (front_lacks_newline a f) (front_lacks_newline b g) (sym (line_ends a x) ∙ same ∙ line_ends b y) in
    (one_row a b f g (line_alone a ∙ ap (λ (l : List ℕ). l ++ newline ∷ []) cut.0 ∙ sym (line_alone b)), cut.1)

line_not_empty : (row : IndexRow) (more : List ℕ) → [] ≡ line_text row ++ more → ⊥
line_not_empty row more e = let len : length (line_text row ++ more) ≡ length (front row) + length (newline ∷ more) = ap length (line_ends row more) ∙ length-append (front row) (newline ∷ more) in omega (arith, len, ap length e)

-- one list of rows goes on after the other
pub record Further (a b : List IndexRow) (x y : List ℕ) : Type 0 where
  pub row : IndexRow
  pub more : List IndexRow
  pub longer : b ≡ a ++ row ∷ more
  pub is_row : IsIndexRow row
  pub line : BeginsWithLine x row

further_cons : (row : IndexRow) (a b : List IndexRow) (x y : List ℕ) → Further a b x y → Further (row ∷ a) (row ∷ b) x y
further_cons row a b x y h = record { row = h.row; more = h.more; longer = ap (λ l. row ∷ l) h.longer; is_row = h.is_row; line = h.line }

-- two ways to cut a text into lines of rows and what follows
abbrev Fork : List IndexRow → List IndexRow → List ℕ → List ℕ → Type 0
Fork a b x y = ((a ≡ b) × (x ≡ y)) ⊎ (Further a b x y ⊎ Further b a y x)

fork_cons : (row : IndexRow) (a b : List IndexRow) (x y : List ℕ) → Fork a b x y → Fork (row ∷ a) (row ∷ b) x y
fork_cons row a b x y (inl same) = inl (ap (λ l. row ∷ l) same.0, same.1)
fork_cons row a b x y (inr (inl h)) = inr (inl (further_cons row a b x y h))
fork_cons row a b x y (inr (inr h)) = inr (inr (further_cons row b a y x h))

fork : (a b : List IndexRow) (x y : List ℕ) → All IsIndexRow a → All IsIndexRow b → index_text a ++ x ≡ index_text b ++ y → Fork a b x y
fork [] [] x y f g same = inl (refl, same)
fork [] (row ∷ b) x y f g same = inr (inl (record {
  row = row;
  more = b;
  longer = refl;
  is_row = All-head IsIndexRow row b g;
  line = (index_text b ++ y, same ∙ append_assoc (line_text row) (index_text b) y);
}))
fork (row ∷ a) [] x y f g same = inr (inr (record {
  row = row;
  more = a;
  longer = refl;
  is_row = All-head IsIndexRow row a f;
  line = (index_text a ++ x, sym same ∙ append_assoc (line_text row) (index_text a) x);
}))
fork (r ∷ a) (s ∷ b) x y f g same =
    let cut = line_cut r s (index_text a ++ x) (index_text b ++ y) (All-head IsIndexRow r a f) (All-head IsIndexRow s b g)
    (sym (append_assoc (line_text r) (index_text a) x) ∙ same ∙ append_assoc (line_text s) (index_text b) y) in
    subst (λ (t : IndexRow). Fork (r ∷ a) (t ∷ b) x y) cut.0 (fork_cons r a b x y (fork a b x y (All-tail IsIndexRow r a f) (All-tail IsIndexRow s b g) cut.1))

no_name_twice : (a more : List IndexRow) (row : IndexRow) → IsIndex (a ++ row ∷ more) → Any (λ r. r.name ≡ row.name) a → ⊥
no_name_twice a more row index earlier =
    let at = earlier.0 in
    let here : get_or (a ++ row ∷ more) (length a) row ≡ row = get_or-append_seam a row more row in
    let there : get_or (a ++ row ∷ more) at row ≡ earlier.1 = get_or_append_left a (row ∷ more) row at earlier.2 ∙ get_or_default a at row earlier.1 earlier.2 ∙ earlier.3 in
    index.names at (length a) row earlier.2 (omega (arith, length-append a (row ∷ more))) (rw (here, there) earlier.4)

-- how a reading ends after its rows
abbrev pub Ending : Result (List IndexRow) IndexFault → List IndexRow → List ℕ → Type 0
Ending (Ok rows) a x = (rows ≡ a) × (x ≡ [])
Ending (Err (IndexLine number)) a x = (number ≡ length a + 1) × (x ≢ []) × ((row : IndexRow) → IsIndexRow row → BeginsWithLine x row → ⊥)
Ending (Err (SameName number)) a x = (number ≡ length a + 1) × ((row : IndexRow) × IsIndexRow row × BeginsWithLine x row × Any (λ r. r.name ≡ row.name) a)
Ending (Err Memory) a x = ⊥

-- a reading, by its rows and what follows them
pub record Reading (text : List ℕ) (answer : Result (List IndexRow) IndexFault) : Type 0 where
  pub rows : List IndexRow
  pub rest : List ℕ
  pub index : IsIndex rows
  pub lines : text ≡ index_text rows ++ rest
  pub ending : Ending answer rows rest

reading : (text : List ℕ) (answer : Result (List IndexRow) IndexFault) → ReadsAs text answer → Reading text answer
reading text (Ok rows) h = record { rows = rows; rest = []; index = h.index; lines = h.lines ∙ sym (append-nil (index_text rows)); ending = (refl, refl) }
reading text (Err (IndexLine number)) h = record { rows = h.rows; rest = h.rest; index = h.goes_on.before; lines = h.goes_on.lines; ending = (h.goes_on.counted, h.more, h.bad) }
reading text (Err (SameName number)) h = record { rows = h.rows; rest = h.rest; index = h.goes_on.before; lines = h.goes_on.lines; ending = (h.goes_on.counted, (h.row, h.is_row, h.line, h.earlier)) }
reading text (Err Memory) h = absurd h

-- after rows that go on no reading ends
no_end : (answer : Result (List IndexRow) IndexFault) (a b : List IndexRow) (x y : List ℕ) → Ending answer a x → IsIndex b → Further a b x y → ⊥
no_end (Ok rows) a b x y end index further = line_not_empty further.row further.line.0 (sym end.1 ∙ further.line.1)
no_end (Err (IndexLine number)) a b x y end index further = end.2 further.row further.is_row further.line
no_end (Err (SameName number)) a b x y end index further =
    let found = end.1 in
    let cut = line_cut found.0 further.row found.2.0 further.line.0 found.1 further.is_row (sym found.2.1 ∙ further.line.1) in
    no_name_twice a further.more further.row (subst IsIndex further.longer index) (subst (λ (r : IndexRow). Any (λ s. s.name ≡ r.name) a) cut.0 found.3)
no_end (Err Memory) a b x y end index further = end

-- after the same rows a reading ends in one way
one_end : (a b : Result (List IndexRow) IndexFault) (rows : List IndexRow) (rest : List ℕ) → Ending a rows rest → Ending b rows rest → a ≡ b
one_end (Ok r) (Ok s) rows rest f g = ap Ok (f.0 ∙ sym g.0)
one_end (Ok r) (Err (IndexLine n)) rows rest f g = absurd (g.1 f.1)
one_end (Ok r) (Err (SameName n)) rows rest f g = absurd (line_not_empty g.1.0 g.1.2.0 (sym f.1 ∙ g.1.2.1))
one_end (Ok r) (Err Memory) rows rest f g = absurd g
one_end (Err (IndexLine m)) (Ok s) rows rest f g = absurd (f.1 g.1)
one_end (Err (IndexLine m)) (Err (IndexLine n)) rows rest f g = ap (λ k. Err (IndexLine k)) (f.0 ∙ sym g.0)
one_end (Err (IndexLine m)) (Err (SameName n)) rows rest f g = absurd (f.2 g.1.0 g.1.1 g.1.2)
one_end (Err (IndexLine m)) (Err Memory) rows rest f g = absurd g
one_end (Err (SameName m)) (Ok s) rows rest f g = absurd (line_not_empty f.1.0 f.1.2.0 (sym g.1 ∙ f.1.2.1))
one_end (Err (SameName m)) (Err (IndexLine n)) rows rest f g = absurd (g.2 f.1.0 f.1.1 f.1.2)
one_end (Err (SameName m)) (Err (SameName n)) rows rest f g = ap (λ k. Err (SameName k)) (f.0 ∙ sym g.0)
one_end (Err (SameName m)) (Err Memory) rows rest f g = absurd g
one_end (Err Memory) b rows rest f g = absurd f

one_answer : (a b : Result (List IndexRow) IndexFault) (r s : List IndexRow) (x y : List ℕ) → IsIndex r → IsIndex s → Ending a r x → Ending b s y → Fork r s x y → a ≡ b
one_answer a b r s x y i j f g (inl same) = one_end a b s y (subst (λ (l : List IndexRow). Ending a l y) same.0 (subst (λ (l : List ℕ). Ending a r l) same.1 f)) g
one_answer a b r s x y i j f g (inr (inl further)) = absurd (no_end a r s x y f j further)
one_answer a b r s x y i j f g (inr (inr further)) = absurd (no_end b s r y x g i further)

pub one_way : ReadsOneWay
one_way text a b f g =
    let p = reading text a f in
    let q = reading text b g in
    one_answer a b p.rows q.rows p.rest q.rest p.index q.index p.ending q.ending (fork p.rows q.rows p.rest q.rest p.index.each q.index.each (sym p.lines ∙ q.lines))

pub printed : PrintedReadsBack
printed rows answer index read = one_way (index_text rows) answer (Ok rows) read (record { index = index; lines = refl })

pub one_text : OneTextForRows
one_text rows s t f g = f.lines ∙ sym g.lines
