-- What holds of all subcommands and all lines.
use Rattle.std.specs.Prelude.{◌≡◌, ℕ, List, Option}
use Rattle.zone_config.specs.declared.terms.Contents.{Contents}
use Rattle.zonecfg_scopes.specs.declared.base.Base.{Base}
use Rattle.zonecfg_scopes.specs.declared.command.Command.{Command}
use Rattle.zonecfg_scopes.specs.Denotes.{Stands}
use Rattle.zonecfg_scopes.specs.Edited.{IsAfter, after_lines, opened_on}
use Rattle.zonecfg_scopes.specs.Open.{Open}

-- something stands open after a base and a list, and nothing else does
pub record StandsAlone (base : Option Contents) (cs : List Command) : Type 0 where
  pub what : Open
  pub stands : Stands base cs what
  pub alone : (other : Open) → Stands base cs other → other ≡ what

abbrev pub OneStands : Type 0
OneStands = (base : Option Contents) (cs : List Command) → StandsAlone base cs

-- what an editor makes of lines, one after another from its base, is what they denote
abbrev pub LinesDenote : Type 0
LinesDenote = (name : List ℕ) (base : Option Base) (lines : List (List ℕ)) → IsAfter lines (after_lines lines (opened_on name base))
