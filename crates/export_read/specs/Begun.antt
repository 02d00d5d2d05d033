-- Which lines begin an export text.
use Rattle.std.specs.Prelude.{◌≡◌, ℕ, List, ◌++◌, ◌+◌, ◌<◌, ◌≤◌, length, take}
use Rattle.config_terms.specs.declared.fault.ConfigFault.{ConfigFault}
use Rattle.config_terms.specs.declared.fault.ConfigFault.TheVariants.{Memory, NotExport}
use Rattle.zn_base.specs.Lines.{lines_of}
use Rattle.zone_config.specs.Export.{export_text}
use Rattle.zone_config.specs.Sound.{IsSound}
use Rattle.zone_config.specs.declared.terms.Contents.{Contents}

-- the first n lines of a text are the first lines of some configuration's export text
pub record BeginsSome (text : List ℕ) (n : ℕ) : Type 0 where
  pub config : Contents
  pub sound : IsSound config
  pub inside : n ≤ length (lines_of text)
  pub rest : List (List ℕ)
  pub same : lines_of (export_text config) ≡ take n (lines_of text) ++ rest

-- one more than the greatest number of leading lines of a text that begin some export text
pub record IsAstray (text : List ℕ) (n : ℕ) : Type 0 where
  pub before : (m : ℕ) × (n ≡ m + 1) × BeginsSome text m
  pub greatest : (m : ℕ) → BeginsSome text m → m < n

-- why a text is not read: the line, or that memory ran out
abbrev pub IsFaultOf : List ℕ → ConfigFault → Type 0
IsFaultOf text Memory = Unit {0}
IsFaultOf text (NotExport n) = IsAstray text n
IsFaultOf text _ = ⊥

-- bytes that begin the export text of a sound configuration
pub record IsFront (bytes : List ℕ) : Type 0 where
  pub config : Contents
  pub sound : IsSound config
  pub tail : List ℕ
  pub begins : export_text config ≡ bytes ++ tail

-- two configurations with one export text are equal
abbrev pub ExportTextsDiffer : Type 0
ExportTextsDiffer = (c d : Contents) → IsSound c → IsSound d → export_text c ≡ export_text d → c ≡ d
