-- What a user of the lines of export texts relies on.
use Rattle.std.specs.Prelude.{◌≡◌, map, Some}
use Rattle.export_read.specs.Commands.{line_of, script}
use Rattle.zn_base.specs.Lines.{lines_of}
use Rattle.export_read.specs.Reading.{command_of}
use Rattle.zone_config.specs.Export.{export_text}
use Rattle.zone_config.specs.Sound.{IsSound}
use Rattle.zone_config.specs.declared.terms.Contents.{Contents}

-- the lines of a sound configuration's text are those of its script, and each says its command
pub record SaysItsScript (c : Contents) : Type 0 where
  pub lines : lines_of (export_text c) ≡ map line_of (script c)
  pub commands : map command_of (lines_of (export_text c)) ≡ map (λ x. Some x) (script c)

abbrev pub LinesSayTheirCommands : Type 0
LinesSayTheirCommands = (c : Contents) → IsSound c → SaysItsScript c
