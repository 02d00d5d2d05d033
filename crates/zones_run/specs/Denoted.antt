-- What the input of `export` denotes, and how that bears on what is written.
use Rattle.std.specs.Prelude.{◌≡◌, ◌+◌, ◌++◌, ◌⊎◌, ℕ, List, [], ◌∷◌, length, Some, None, Ok, Err}
use Rattle.std.specs.List.{flat_map}
use Rattle.zonecfg_lex.specs.declared.fault.LexFault.{LexFault}
use Rattle.zonecfg_lex.specs.Subcommands.{subcommands_of}
use Rattle.zone_config.specs.declared.terms.Contents.{Contents}
use Rattle.zone_config.specs.Export.{export_text}
use Rattle.config_verify.specs.Flaws.{flaws}
use Rattle.zonecfg_scopes.specs.declared.command.Command.{Command}
use Rattle.zonecfg_scopes.specs.Denotes.{Denotes, Stands}
use Rattle.zonecfg_scopes.specs.Edited.{commands_of}
use Rattle.zonecfg_scopes.specs.Faults.{lexed}
use Rattle.zonecfg_scopes.specs.Forms.{command_of}
use Rattle.zonecfg_scopes.specs.Open.{Open, Nothing}
use Rattle.zonecfg_scopes.specs.Turns.{in_turn, line_commands, script_of}
use Rattle.zones_run.specs.declared.refusal.Refusal.{Refusal}
use Rattle.zones_run.specs.Statuses.{status_done, status_refused}
use Rattle.zones_run.specs.Exporting.{ended, exported, refused_at}
use Rattle.zn_base.specs.Lines.{lines_of}
use Rattle.zones_run.specs.Obeyed.{lines_in_turn}
use Rattle.zones_run.specs.Output.{Output, written}
use Rattle.zones_run.specs.Refusals.{refused as of_fault}
use Rattle.zones_run.specs.Subcommands.{known_brands, obeyed_as}

-- the export text of a configuration without flaws that some subcommands denote, with nothing open before them
pub record ExportsDenoted (cs : List Command) (output : Output) : Type 0 where
  pub config : Contents
  pub denoted : Denotes None cs (Some config)
  pub flawless : flaws known_brands config ≡ []
  pub text : output ≡ written (export_text config)

-- a law: where the status is 0, what is written is the export text of what the subcommands of the input denote
abbrev pub ExportsWhatIsDenoted : Type 0
ExportsWhatIsDenoted = (bytes : List ℕ) → (exported bytes).status ≡ status_done → ExportsDenoted (script_of bytes) (exported bytes)

-- the first subcommand of a line that is refused, with some subcommands and what is open before the line: those of the
-- line before it are obeyed, and it is refused at what all before it denote
pub record RefusesSubcommand (cs : List Command) (o : Open) (line : List ℕ) (refusal : Refusal) : Type 0 where
  pub before : List (List ℕ)
  pub text : List ℕ
  pub rest : List (List ℕ)
  pub cut : subcommands_of line ≡ Ok (before ++ text ∷ rest)
  pub opened : Open
  pub obeyed : in_turn obeyed_as before o ≡ Ok opened
  pub stands : Stands None (cs ++ commands_of before) opened
  pub refused : obeyed_as (command_of text) opened ≡ Err refusal

-- a line with a wrong quote, byte or bracket, of which nothing is obeyed
pub record RefusesAll (line : List ℕ) (refusal : Refusal) : Type 0 where
  pub fault : LexFault
  pub wrong : subcommands_of line ≡ Err fault
  pub refused : refusal ≡ of_fault (lexed fault)

-- the first line that is refused: those before it are obeyed, and it is refused at one of its subcommands, or as a whole
pub record RefusesLine (lines : List (List ℕ)) (output : Output) : Type 0 where
  pub before : List (List ℕ)
  pub line : List ℕ
  pub rest : List (List ℕ)
  pub cut : lines ≡ before ++ line ∷ rest
  pub opened : Open
  pub obeyed : lines_in_turn before Nothing ≡ Ok opened
  pub stands : Stands None (flat_map line_commands before) opened
  pub refusal : Refusal
  pub refused : RefusesSubcommand (flat_map line_commands before) opened line refusal ⊎ RefusesAll line refusal
  pub told : output ≡ refused_at (length before + 1) refusal

-- the end of the input: all lines are obeyed, and it is refused at what their subcommands denote
pub record RefusesEnd (lines : List (List ℕ)) (output : Output) : Type 0 where
  pub opened : Open
  pub obeyed : lines_in_turn lines Nothing ≡ Ok opened
  pub stands : Stands None (flat_map line_commands lines) opened
  pub told : output ≡ ended opened

-- a law: where the status is 1, the first line that is refused is reported, with why its first refused subcommand is, at what
-- all subcommands before it denote; or all lines are obeyed, and the end is refused
abbrev pub RefusesAtWhatIsDenoted : Type 0
RefusesAtWhatIsDenoted = (bytes : List ℕ) → (exported bytes).status ≡ status_refused
    → RefusesLine (lines_of bytes) (exported bytes) ⊎ RefusesEnd (lines_of bytes) (exported bytes)
