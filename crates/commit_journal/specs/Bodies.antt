-- The body of one record of a store, in form 1. The form is this project's own.
use Rattle.std.specs.Prelude.{◌≡◌, ℕ, zero, suc, ◌+◌, ◌/◌, ◌%◌, ◌^◌, ◌<◌, ◌≤◌, List, [], ◌∷◌, ◌++◌, Option, Some, None, IsSome, IfSome, IsTrue, codes}
use Rattle.uuid_text.specs.Text.{uuid_text, IsUuid}
use Rattle.zn_base.specs.Lines.{newline}
use Rattle.zn_base.specs.Names.{is_name}
use Rattle.zn_base.specs.States.{is_stored, state_text}
use Rattle.zone_config.specs.Export.{export_text}
use Rattle.zone_config.specs.Sound.{IsSound}
use Rattle.commit_journal.specs.declared.records.Commit.{Commit}
use Rattle.commit_journal.specs.declared.records.Record.{Record}

-- a word, a space, what it says and a newline
abbrev pub told : List ℕ → List ℕ → List ℕ
told word value = word ++ 32 ∷ value ++ newline ∷ []

-- a number in so many decimal digits, with leading zeros
unfoldable pub padded : ℕ → ℕ → List ℕ
padded zero n = []
padded (suc k) n = padded k (n / 10) ++ (48 + n % 10) ∷ []

-- a number has no more digits than these
abbrev pub HasDigits : ℕ → ℕ → Type 0
HasDigits zero n = n ≡ 0
HasDigits (suc k) n = HasDigits k (n / 10)

unfoldable pub record_text : Record → List ℕ
record_text row =
    told (codes "state") (state_text row.state) ++ told (codes "uuid") (uuid_text row.uuid) ++ told (codes "revision") (padded 10 row.revision)
    ++ export_text row.config

-- what is stored of a zone from then on, or that it is removed
abbrev pub stored_text : Option Record → List ℕ
stored_text None = told (codes "state") (codes "none")
stored_text (Some row) = record_text row

unfoldable pub body_text : Commit → List ℕ
body_text commit = told (codes "zone") commit.zone ++ stored_text commit.stored

-- what a caller sees to before a record is stored
pub record IsStorable (row : Record) : Type 0 where
  pub state : IsTrue (is_stored row.state)
  pub revision : 1 ≤ row.revision
  pub zonepath : IsSome row.config.zonepath

-- what may be stored of a zone
pub record IsRecord (row : Record) : Type 0 where
  pub state : IsTrue (is_stored row.state)
  pub uuid : IsUuid row.uuid
  pub revision : 1 ≤ row.revision
  pub fits : row.revision < 2 ^ 32
  pub config : IsSound row.config
  pub zonepath : IsSome row.config.zonepath

pub record IsCommit (commit : Commit) : Type 0 where
  pub zone : IsTrue (is_name commit.zone)
  pub stored : IfSome commit.stored IsRecord

-- a law: at most one commit has a body
abbrev pub OneCommitABody : Type 0
OneCommitABody = (a b : Commit) → IsCommit a → IsCommit b → body_text a ≡ body_text b → a ≡ b
