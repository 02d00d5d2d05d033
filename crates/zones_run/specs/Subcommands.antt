-- What a line of `export` makes of what is open: its subcommands, from left to right, up to the first that is refused
-- (zonecfg(8), SUBCOMMANDS).
use Rattle.std.specs.Prelude.{◌≡◌, ℕ, List, [], ◌∷◌, Bool, true, false, Option, Some, None, Result, Ok, Err, codes, if◌then◌else◌}
use Rattle.zone_config.specs.declared.terms.Contents.{Contents}
use Rattle.config_verify.specs.declared.flaw.Flaw.{Flaw}
use Rattle.config_verify.specs.Flaws.{first, flaws}
use Rattle.zonecfg_scopes.specs.declared.command.Command.{Command}
use Rattle.zonecfg_scopes.specs.declared.command.Command.TheVariants.{Commit, Delete, Exit, Export, Help, Info, Revert, Verify}
use Rattle.zonecfg_scopes.specs.declared.fault.EditFault.{EditFault}
use Rattle.zonecfg_scopes.specs.declared.fault.EditFault.TheVariants.{NotHere}
use Rattle.zonecfg_scopes.specs.Open.{Open}
use Rattle.zonecfg_scopes.specs.OpenOf.{config_of}
use Rattle.zonecfg_scopes.specs.Scopes.{made}
use Rattle.zonecfg_scopes.specs.Turns.{line_in_turn}
use Rattle.zones_run.specs.declared.refusal.Refusal.{Refusal}
use Rattle.zones_run.specs.declared.refusal.Refusal.TheVariants.{Memory}
use Rattle.zones_run.specs.Refusals.{flawed, refused}

-- the subcommands that only an editing session has
abbrev pub is_elsewhere : Command → Bool
is_elsewhere Commit = true
is_elsewhere (Delete force) = true
is_elsewhere (Exit force) = true
is_elsewhere Export = true
is_elsewhere Help = true
is_elsewhere (Info topic) = true
is_elsewhere (Revert force) = true
is_elsewhere command = false

-- the brands that a zone may have
abbrev pub known_brands : List (List ℕ)
known_brands = codes "ipkg" ∷ codes "lx" ∷ []

abbrev pub unless_flawed : Result (Unit {0}) Flaw → Open → Result Open Refusal
unless_flawed (Ok _) o = Ok o
unless_flawed (Err flaw) o = Err (flawed flaw)

abbrev pub verified : Option Contents → Open → Result Open Refusal
verified None o = Ok o
verified (Some c) o = unless_flawed (first (flaws known_brands c)) o

-- `verify` answers the first flaw of the configuration that is open; nothing else looks for one
abbrev pub looked_over : Command → Open → Result Open Refusal
looked_over Verify o = verified (config_of o) o
looked_over command o = Ok o

abbrev pub passed : Command → Result Open EditFault → Result Open Refusal
passed command (Ok o) = looked_over command o
passed command (Err fault) = Err (refused fault)

-- what a subcommand makes of what is open, or why it is refused
unfoldable pub obeyed : Command → Open → Result Open Refusal
obeyed command o = if is_elsewhere command then Err (refused NotHere) else passed command (made command o)

-- the same of how it reads
abbrev pub obeyed_as : Result Command EditFault → Open → Result Open Refusal
obeyed_as (Ok command) o = obeyed command o
obeyed_as (Err fault) o = Err (refused fault)

-- what a line makes of what is open, or why it is refused
unfoldable pub edit_of : List ℕ → Open → Result Open Refusal
edit_of line o = line_in_turn obeyed_as line o

-- it was obeyed, or refused, or memory ran out
abbrev pub Edits : {A : Type 0} → Open → Result A Refusal → Result Open Refusal → Type 0
Edits new (Ok _) said = said ≡ Ok new
Edits new (Err Memory) said = Unit {0}
Edits new (Err refusal) said = said ≡ Err refusal
