-- What an editor holds, what it answers, and the list of lines that it stands for.
use Rattle.std.specs.Prelude.{◌≢◌, ℕ, List, [], ◌∷◌, ◌++◌, Bool, not, ◌&&◌, Option, Some, None, IsSome, is_some, Result, Ok, Err}
use Rattle.std.specs.Option.{option_eq}
use Rattle.zone_config.specs.declared.terms.Contents.{Contents}
use Rattle.zonecfg_scopes.specs.declared.base.Base.{Base}
use Rattle.zonecfg_scopes.specs.declared.command.Command.{Command}
use Rattle.zonecfg_scopes.specs.declared.command.Command.TheVariants.{Commit, Delete, Exit, Export, Help, Info, Revert, Verify}
use Rattle.zonecfg_scopes.specs.declared.command.EditReply.{EditReply}
use Rattle.zonecfg_scopes.specs.declared.command.EditReply.TheVariants.{Done, Lines, WantCommit, WantDelete, WantExit, WantRevert, WantVerify}
use Rattle.zonecfg_scopes.specs.declared.fault.EditFault.{EditFault}
use Rattle.zonecfg_scopes.specs.declared.fault.EditFault.TheVariants.{Memory}
use Rattle.zonecfg_scopes.specs.Denotes.{Stands, whole}
use Rattle.zonecfg_scopes.specs.Forms.{command_of}
use Rattle.zonecfg_scopes.specs.Info.{export_lines, help_line, info_lines}
use Rattle.zonecfg_scopes.specs.Open.{Open}
use Rattle.zonecfg_scopes.specs.OpenOf.{config_of}
use Rattle.zone_config.specs.Same.{same_contents}
use Rattle.zonecfg_scopes.specs.Scopes.{made}

-- a zone's name, its base, and what is open
pub record Edited : Type 0 where
  pub name : List ℕ
  pub base : Option Base
  pub opened : Open

abbrev pub base_config : Option Base → Option Contents
base_config None = None
base_config (Some b) = Some b.config

-- the revision of a base, or 0 without one
abbrev pub revision_of : Option Base → ℕ
revision_of None = 0
revision_of (Some b) = b.revision

-- an editor of a base to which nothing was said yet
abbrev pub opened_on : List ℕ → Option Base → Edited
opened_on name base = record { name = name; base = base; opened = whole (base_config base) }

-- the answer to a subcommand that is not refused, by the editor before it
abbrev pub reply_of : Command → Edited → EditReply
reply_of Commit e = WantCommit
reply_of (Delete force) e = WantDelete
reply_of (Exit force) e = WantExit force
reply_of Export e = Lines (export_lines e.opened)
reply_of Help e = Lines (help_line ∷ [])
reply_of (Info topic) e = Lines (info_lines topic e.name e.opened)
reply_of (Revert force) e = WantRevert
reply_of Verify e = WantVerify
reply_of command e = Done

abbrev pub answered : Command → Edited → Result Open EditFault → Result EditReply EditFault
answered command e (Ok o) = Ok (reply_of command e)
answered command e (Err fault) = Err fault

-- what a subcommand is answered
abbrev pub answer_of : Command → Edited → Result EditReply EditFault
answer_of command e = answered command e (made command e.opened)

abbrev pub answer_by : Result Command EditFault → Edited → Result EditReply EditFault
answer_by (Ok command) e = answer_of command e
answer_by (Err fault) e = Err fault

-- what a line is answered: first by its form, and then by what is open
abbrev pub line_answer : List ℕ → Edited → Result EditReply EditFault
line_answer line e = answer_by (command_of line) e

abbrev pub with_command : Result Command EditFault → List Command → List Command
with_command (Ok command) cs = command ∷ cs
with_command (Err fault) cs = cs

abbrev pub or_stay : Open → Result Open EditFault → Open
or_stay o (Ok new) = new
or_stay o (Err fault) = o

-- what is open after a subcommand; a refused one leaves all as it was
abbrev pub stepped : Command → Open → Open
stepped command o = or_stay o (made command o)

-- an editor after a subcommand
abbrev pub after_command : Command → Edited → Edited
after_command command e = record e { opened = stepped command e.opened }

abbrev pub after_read : Result Command EditFault → Edited → Edited
after_read (Ok command) e = after_command command e
after_read (Err fault) e = e

-- an editor after a line
abbrev pub after_line : List ℕ → Edited → Edited
after_line line e = after_read (command_of line) e

-- an editor after lines
abbrev pub after_lines : List (List ℕ) → Edited → Edited
after_lines [] e = e
after_lines (line ∷ lines) e = after_lines lines (after_line line e)

-- a configuration is open that differs from the base's, or that has no base
abbrev pub IsChanged : Edited → Type 0
IsChanged e = IsSome (config_of e.opened) × (config_of e.opened ≢ base_config e.base)

-- the same as a test
abbrev pub is_changed : Edited → Bool
is_changed e = is_some (config_of e.opened) && not (option_eq same_contents (config_of e.opened) (base_config e.base))

-- the subcommands that lines spell; a line that spells none is refused, and denotes nothing
abbrev pub commands_of : List (List ℕ) → List Command
commands_of [] = []
commands_of (line ∷ lines) = with_command (command_of line) (commands_of lines)

-- an editor stands for lines since its base
abbrev pub IsAfter : List (List ℕ) → Edited → Type 0
IsAfter lines e = Stands (base_config e.base) (commands_of lines) e.opened

-- the lines that an editor stands for after one more: where memory runs out, those before
abbrev pub lines_after : List (List ℕ) → List ℕ → Result EditReply EditFault → List (List ℕ)
lines_after lines line (Err Memory) = lines
lines_after lines line result = lines ++ line ∷ []
