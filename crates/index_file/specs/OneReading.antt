-- What the form of an index promises.
use Rattle.std.specs.Prelude.{◌≡◌, List, ℕ, Result, Ok}
use Rattle.index_file.specs.declared.fault.IndexFault.{IndexFault}
use Rattle.index_file.specs.declared.rows.IndexRow.{IndexRow}
use Rattle.index_file.specs.Index.{index_text, line_text, IsIndex, IsIndexRow}
use Rattle.index_file.specs.Reading.{ReadsAs}

-- at most one row has a line
abbrev pub OneRowALine : Type 0
OneRowALine = (a b : IndexRow) → IsIndexRow a → IsIndexRow b → line_text a ≡ line_text b → a ≡ b

-- a text is read in one way: as one list of rows, or as wrong in one line for one cause
abbrev pub ReadsOneWay : Type 0
ReadsOneWay = (text : List ℕ) (a b : Result (List IndexRow) IndexFault) → ReadsAs text a → ReadsAs text b → a ≡ b

-- what was printed is read as the rows that were printed, and as nothing else
abbrev pub PrintedReadsBack : Type 0
PrintedReadsBack = (rows : List IndexRow) (answer : Result (List IndexRow) IndexFault) → IsIndex rows → ReadsAs (index_text rows) answer → answer ≡ Ok rows

-- one list of rows has one text
abbrev pub OneTextForRows : Type 0
OneTextForRows = (rows : List IndexRow) (s t : List ℕ) → ReadsAs s (Ok rows) → ReadsAs t (Ok rows) → s ≡ t
