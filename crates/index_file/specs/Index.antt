-- The index text: one line for each stored zone. Its form is this project's own.
use Rattle.std.specs.Prelude.{◌≢◌, ℕ, List, [], ◌∷◌, ◌++◌, Bool, ◌==◌, ◌||◌, IsTrue, All, if◌then◌else◌}
use Rattle.std.specs.List.{flat_map, AllPairs}
use Rattle.uuid_text.specs.Text.{uuid_text, IsUuid}
use Rattle.zn_base.specs.Lines.{newline}
use Rattle.zn_base.specs.Names.{is_name}
use Rattle.zn_base.specs.Path.{is_path}
use Rattle.zn_base.specs.States.{is_stored, state_text}
use Rattle.index_file.specs.declared.rows.IndexRow.{IndexRow}

-- `:` ends a field, and `\` stands before a byte that ends none
abbrev pub colon : ℕ
colon = 58

abbrev pub backslash : ℕ
backslash = 92

abbrev pub is_escaped_byte : ℕ → Bool
is_escaped_byte b = b == colon || b == backslash

abbrev pub escaped_byte : ℕ → List ℕ
escaped_byte b = if is_escaped_byte b then backslash ∷ b ∷ [] else b ∷ []

abbrev pub escaped : List ℕ → List ℕ
escaped path = flat_map escaped_byte path

-- `NAME:STATE:PATH:UUID` and a newline
unfoldable pub line_text : IndexRow → List ℕ
line_text row =
    row.name ++ colon ∷ state_text row.state ++ colon ∷ escaped row.path ++ colon ∷ uuid_text row.uuid ++ newline ∷ []

abbrev pub index_text : List IndexRow → List ℕ
index_text rows = flat_map line_text rows

-- what stands in an index: a stored zone
pub record IsIndexRow (row : IndexRow) : Type 0 where
  pub name : IsTrue (is_name row.name)
  pub state : IsTrue (is_stored row.state)
  pub path : IsTrue (is_path row.path)
  pub uuid : IsUuid row.uuid

-- no two zones have one name
abbrev pub NamesDiffer : List IndexRow → Type 0
NamesDiffer rows = AllPairs (λ a b. a.name ≢ b.name) rows

pub record IsIndex (rows : List IndexRow) : Type 0 where
  pub each : All IsIndexRow rows
  pub names : NamesDiffer rows
