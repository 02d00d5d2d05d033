-- What a line of an editing session does (zonecfg(8), SUBCOMMANDS): its subcommands from left to right, up to the first
-- that is refused.
use Rattle.std.specs.Prelude.{ℕ, List, [], ◌∷◌, ◌++◌, false, Option, Some, None, Result, Ok, Err, if◌then◌else◌}
use Rattle.zone_config.specs.declared.terms.Contents.{Contents}
use Rattle.zonecfg_lex.specs.declared.fault.LexFault.{LexFault}
use Rattle.zonecfg_lex.specs.Subcommands.{subcommands_of}
use Rattle.config_verify.specs.declared.flaw.Flaw.{Flaw}
use Rattle.config_verify.specs.Flaws.{first, flaws}
use Rattle.zonecfg_scopes.specs.declared.base.Base.{Base}
use Rattle.zonecfg_scopes.specs.declared.command.Command.{Command}
use Rattle.zonecfg_scopes.specs.declared.command.Command.TheVariants as command
use Rattle.zonecfg_scopes.specs.declared.command.EditReply.{EditReply}
use Rattle.zonecfg_scopes.specs.declared.command.EditReply.TheVariants.{Done, Lines, WantCommit, WantDelete, WantExit, WantRevert, WantVerify}
use Rattle.zonecfg_scopes.specs.declared.fault.EditFault.{EditFault}
use Rattle.zonecfg_scopes.specs.Edited.{Edited, after_command, answer_of, opened_on}
use Rattle.zonecfg_scopes.specs.Faults.{lexed}
use Rattle.zonecfg_scopes.specs.Forms.{command_of}
use Rattle.zonecfg_scopes.specs.OpenOf.{config_of}
use Rattle.zonecfg_lines.specs.declared.refusal.LineRefusal.{LineRefusal}
use Rattle.zonecfg_lines.specs.declared.refusal.LineRefusal.TheVariants.{Edit, Flawed, NoZone, Usage}
use Rattle.zonecfg_lines.specs.declared.reply.Ending.{Ending}
use Rattle.zonecfg_lines.specs.declared.reply.Ending.TheVariants.{Nothing, Commit, Delete, Exit}
use Rattle.zonecfg_lines.specs.declared.reply.Stored.{Stored}
use Rattle.zonecfg_lines.specs.Order.{has_misplaced}

-- what is edited at the end, the lines that were told, and what is asked for, or why a subcommand was refused
pub record Run : Type 0 where
  pub edited : Edited
  pub told : List (List ℕ)
  pub end : Result Ending LineRefusal

abbrev pub run : Edited → List (List ℕ) → Result Ending LineRefusal → Run
run e told end = record { edited = e; told = told; end = end }

abbrev pub asks : Ending → Edited → Run
asks ending e = run e [] (Ok ending)

abbrev pub refuses : LineRefusal → Edited → Run
refuses refusal e = run e [] (Err refusal)

-- the first flaw of the configuration that is open
abbrev pub first_flaw : List (List ℕ) → Option Contents → Result (Unit {0}) Flaw
first_flaw brands None = Ok tt
first_flaw brands (Some c) = first (flaws brands c)

abbrev pub unless_flawed : Result (Unit {0}) Flaw → Edited → Run
unless_flawed (Ok _) e = asks Nothing e
unless_flawed (Err flaw) e = refuses (Flawed flaw) e

-- `revert` begins anew with what is stored
abbrev pub reverted : Option Base → Edited → Run
reverted None e = refuses NoZone e
reverted (Some base) e = asks Nothing (opened_on e.name (Some base))

-- what comes of the editor's answer to a subcommand, which it has obeyed
abbrev pub answered : Option Base → List (List ℕ) → EditReply → Edited → Run
answered stored brands Done e = asks Nothing e
answered stored brands (Lines lines) e = run e lines (Ok Nothing)
answered stored brands WantVerify e = unless_flawed (first_flaw brands (config_of e.opened)) e
answered stored brands WantRevert e = reverted stored e
answered stored brands WantCommit e = asks Commit e
answered stored brands WantDelete e = asks Delete e
answered stored brands (WantExit force) e = asks (Exit force) e

abbrev pub by_answer : Option Base → List (List ℕ) → Command → Result EditReply EditFault → Edited → Run
by_answer stored brands command (Ok reply) e = answered stored brands reply (after_command command e)
by_answer stored brands command (Err fault) e = refuses (Edit fault) e

-- what a subcommand does, where a configuration is stored or none is, by the brands that there are
unfoldable pub obeyed : Option Base → List (List ℕ) → Command → Edited → Run
obeyed stored brands command e = by_answer stored brands command (answer_of command e) e

-- the same of how it reads
abbrev pub obeyed_as : Option Base → List (List ℕ) → Result Command EditFault → Edited → Run
obeyed_as stored brands (Ok command) e = obeyed stored brands command e
obeyed_as stored brands (Err fault) e = refuses (Edit fault) e

abbrev pub told_first : List (List ℕ) → Run → Run
told_first told r = run r.edited (told ++ r.told) r.end

abbrev pub followed_by : Edited → List (List ℕ) → Result Ending LineRefusal → (Edited → Run) → Run
followed_by e told (Ok Nothing) next = told_first told (next e)
followed_by e told end next = run e told end

-- a run, and what follows it where it was not refused and asks for nothing
abbrev pub followed : Run → (Edited → Run) → Run
followed r next = followed_by r.edited r.told r.end next

-- what subcommands do, one after another
abbrev pub in_turn : Option Base → List (List ℕ) → List (List ℕ) → Edited → Run
in_turn stored brands [] e = asks Nothing e
in_turn stored brands (text ∷ texts) e = followed (obeyed_as stored brands (command_of text) e) (in_turn stored brands texts)

-- a wrong quote, byte or bracket refuses the whole line, and so does `commit`, `delete` or `exit` before its end
abbrev pub line_by : Option Base → List (List ℕ) → Result (List (List ℕ)) LexFault → Edited → Run
line_by stored brands (Ok texts) e = if has_misplaced texts then refuses Usage e else in_turn stored brands texts e
line_by stored brands (Err fault) e = refuses (Edit (lexed fault)) e

-- what a line of a session does
unfoldable pub line_run : Option Base → List (List ℕ) → List ℕ → Edited → Run
line_run stored brands line e = line_by stored brands (subcommands_of line) e

-- what a line does that is a session of its own: where it asks for nothing, `exit` is put in at its end
unfoldable pub alone_run : Option Base → List (List ℕ) → List ℕ → Edited → Run
alone_run stored brands line e = followed (line_run stored brands line e) (obeyed stored brands (command.Exit false))

-- what is stored, as the editor takes it for its base
abbrev pub stored_base : Stored → Base
stored_base s = record { config = s.config.now; revision = s.revision }

abbrev pub base_of : Option Stored → Option Base
base_of None = None
base_of (Some s) = Some (stored_base s)
