-- What a text reads as: the rows whose text it is, or the first line that is wrong.
use Rattle.std.specs.Prelude.{◌≡◌, ◌≢◌, ℕ, ◌+◌, List, [], ◌++◌, length, Result, Ok, Err}
use Rattle.std.specs.List.{Any}
use Rattle.index_file.specs.declared.fault.IndexFault.{IndexFault}
use Rattle.index_file.specs.declared.fault.IndexFault.TheVariants.{Memory, IndexLine, SameName}
use Rattle.index_file.specs.declared.rows.IndexRow.{IndexRow}
use Rattle.index_file.specs.Index.{index_text, line_text, IsIndex, IsIndexRow}

-- a text begins with the line of a row; a line ends with its newline
abbrev pub BeginsWithLine : List ℕ → IndexRow → Type 0
BeginsWithLine text row = (more : List ℕ) × (text ≡ line_text row ++ more)

-- the text goes on after the lines of an index, in the line of this number
pub record GoesOn (text : List ℕ) (rows : List IndexRow) (rest : List ℕ) (number : ℕ) : Type 0 where
  pub before : IsIndex rows
  pub lines : text ≡ index_text rows ++ rest
  pub counted : number ≡ length rows + 1

-- the line of this number is the first wrong one, and no row has such a line
pub record IsBadLine (text : List ℕ) (number : ℕ) : Type 0 where
  pub rows : List IndexRow
  pub rest : List ℕ
  pub goes_on : GoesOn text rows rest number
  pub more : rest ≢ []
  pub bad : (row : IndexRow) → IsIndexRow row → BeginsWithLine rest row → ⊥

-- the line of this number is the first wrong one: it names a zone that an earlier line names
pub record IsRepeat (text : List ℕ) (number : ℕ) : Type 0 where
  pub rows : List IndexRow
  pub rest : List ℕ
  pub row : IndexRow
  pub goes_on : GoesOn text rows rest number
  pub is_row : IsIndexRow row
  pub line : BeginsWithLine rest row
  pub earlier : Any (λ r. r.name ≡ row.name) rows

-- the rows that a text stands for
pub record StandsFor (text : List ℕ) (rows : List IndexRow) : Type 0 where
  pub index : IsIndex rows
  pub lines : text ≡ index_text rows

abbrev pub ReadsAs : List ℕ → Result (List IndexRow) IndexFault → Type 0
ReadsAs text (Ok rows) = StandsFor text rows
ReadsAs text (Err (IndexLine number)) = IsBadLine text number
ReadsAs text (Err (SameName number)) = IsRepeat text number
ReadsAs text (Err Memory) = ⊥
