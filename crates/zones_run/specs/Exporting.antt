-- What `export` writes for the whole of its input.
use Rattle.std.specs.Prelude.{ℕ, List, [], ◌∷◌, ◌+◌, Result, Ok, Err, if◌then◌else◌}
use Rattle.config_terms.specs.Fields.{kind_of}
use Rattle.zone_config.specs.declared.terms.Contents.{Contents}
use Rattle.zone_config.specs.Export.{export_text}
use Rattle.config_verify.specs.declared.flaw.Flaw.{Flaw}
use Rattle.config_verify.specs.Flaws.{first, flaws}
use Rattle.zonecfg_scopes.specs.declared.fault.EditFault.TheVariants.{NothingOpen, WrongScope}
use Rattle.zonecfg_scopes.specs.declared.fault.Scope.TheVariants.{Resource}
use Rattle.zonecfg_scopes.specs.Open.{Open, Nothing, Whole, Inside}
use Rattle.zones_run.specs.declared.outcome.Complaint.TheVariants.{Line, End}
use Rattle.zones_run.specs.declared.refusal.Refusal.{Refusal}
use Rattle.zn_base.specs.Lines.{lines_of}
use Rattle.zones_run.specs.Complaints.{complaint_output, limit_at}
use Rattle.zones_run.specs.Output.{Output, is_past_limit, written}
use Rattle.zones_run.specs.Refusals.{flawed, refused}
use Rattle.zones_run.specs.Subcommands.{known_brands, edit_of}

abbrev pub refused_at : ℕ → Refusal → Output
refused_at number refusal = complaint_output (Line number refusal)

abbrev pub refused_end : Refusal → Output
refused_end refusal = complaint_output (End refusal)

abbrev pub written_unless_flawed : Result (Unit {0}) Flaw → Contents → Output
written_unless_flawed (Ok _) c = written (export_text c)
written_unless_flawed (Err flaw) c = refused_end (flawed flaw)

-- what is open at the end of the input is exported, where no scope is open and it has no flaw
abbrev pub ended : Open → Output
ended Nothing = refused_end (refused NothingOpen)
ended (Whole c) = written_unless_flawed (first (flaws known_brands c)) c
ended (Inside c r at) = refused_end (refused (WrongScope (Resource (kind_of r))))

-- a line that is obeyed leads on, and a refused one ends the run
abbrev pub led_on : ℕ → Result Open Refusal → (Open → Output) → Output
led_on number (Ok o) more = more o
led_on number (Err refusal) more = refused_at number refusal

-- the lines from a number on, over what is open before them
abbrev pub edited : ℕ → Open → List (List ℕ) → Output
edited number o [] = ended o
edited number o (line ∷ lines) =
    if is_past_limit number line then limit_at number
    else led_on number (edit_of line o) (λ next. edited (number + 1) next lines)

-- `export` over the whole input
abbrev pub exported : List ℕ → Output
exported bytes = edited 1 Nothing (lines_of bytes)
