-- The subcommands of a line in turn, up to the first that is refused (zonecfg(8), SUBCOMMANDS).
use Rattle.std.specs.Prelude.{◌≡◌, ℕ, List, [], ◌∷◌, Option, Some, None, Result, Ok, Err}
use Rattle.std.specs.List.{flat_map}
use Rattle.zn_base.specs.Lines.{lines_of}
use Rattle.zonecfg_lex.specs.declared.fault.LexFault.{LexFault}
use Rattle.zonecfg_lex.specs.Subcommands.{subcommands_of}
use Rattle.zonecfg_scopes.specs.declared.command.Command.{Command}
use Rattle.zonecfg_scopes.specs.declared.fault.EditFault.{EditFault}
use Rattle.zonecfg_scopes.specs.declared.fault.EditFault.TheVariants.{Memory}
use Rattle.zonecfg_scopes.specs.Edited.{commands_of}
use Rattle.zonecfg_scopes.specs.Faults.{lexed}
use Rattle.zonecfg_scopes.specs.Forms.{command_of}

-- what comes next is done where nothing was refused before
abbrev pub goes_on : {S F : Type 0} → Result S F → (S → Result S F) → Result S F
goes_on (Ok s) next = next s
goes_on (Err refusal) next = Err refusal

-- what texts make of a state, one after another, by what each makes of it as it reads
abbrev pub in_turn : {S F : Type 0} → (Result Command EditFault → S → Result S F) → List (List ℕ) → S → Result S F
in_turn obeyed [] s = Ok s
in_turn obeyed (text ∷ texts) s = goes_on (obeyed (command_of text) s) (in_turn obeyed texts)

abbrev pub all_in_turn : {S F : Type 0} → (Result Command EditFault → S → Result S F) → Result (List (List ℕ)) LexFault → S → Result S F
all_in_turn obeyed (Ok texts) s = in_turn obeyed texts s
all_in_turn obeyed (Err fault) s = obeyed (Err (lexed fault)) s

-- what a line makes of a state; a quote, a byte or a bracket that is wrong refuses the whole line
unfoldable pub line_in_turn : {S F : Type 0} → (Result Command EditFault → S → Result S F) → List ℕ → S → Result S F
line_in_turn obeyed line s = all_in_turn obeyed (subcommands_of line) s

abbrev pub commands_by : Result (List (List ℕ)) LexFault → List Command
commands_by (Ok texts) = commands_of texts
commands_by (Err fault) = []

-- the subcommands of a line
unfoldable pub line_commands : List ℕ → List Command
line_commands line = commands_by (subcommands_of line)

-- the subcommands of all lines of an input
abbrev pub script_of : List ℕ → List Command
script_of bytes = flat_map line_commands (lines_of bytes)

-- the first of some texts reads as something, and the others are left
pub record ReadsFirst (texts left : List (List ℕ)) (read : Result Command EditFault) : Type 0 where
  pub text : List ℕ
  pub first : texts ≡ text ∷ left
  pub reads : command_of text ≡ read

-- the next subcommand of some texts was read, or none is left, or memory ran out
abbrev pub ReadsNext : List (List ℕ) → List (List ℕ) → Result (Option Command) EditFault → Type 0
ReadsNext texts left (Ok None) = texts ≡ []
ReadsNext texts left (Ok (Some command)) = ReadsFirst texts left (Ok command)
ReadsNext texts left (Err Memory) = Unit {0}
ReadsNext texts left (Err fault) = ReadsFirst texts left (Err fault)
