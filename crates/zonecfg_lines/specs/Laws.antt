-- What holds of all lines.
use Rattle.std.specs.Prelude.{◌≡◌, ℕ, List, [], ◌∷◌, ◌++◌, Bool, true, false, Option, Result, Ok, Err, if◌then◌else◌}
use Rattle.zonecfg_lex.specs.Subcommands.{subcommands_of}
use Rattle.zonecfg_scopes.specs.declared.base.Base.{Base}
use Rattle.zonecfg_scopes.specs.declared.command.Command.{Command}
use Rattle.zonecfg_scopes.specs.declared.command.Command.TheVariants.{Revert}
use Rattle.zonecfg_scopes.specs.declared.fault.EditFault.{EditFault}
use Rattle.zonecfg_scopes.specs.Edited.{Edited, IsAfter}
use Rattle.zonecfg_scopes.specs.Forms.{command_of}
use Rattle.zonecfg_lines.specs.declared.refusal.LineRefusal.{LineRefusal}
use Rattle.zonecfg_lines.specs.declared.reply.Ending.{Ending}
use Rattle.zonecfg_lines.specs.Order.{has_misplaced}
use Rattle.zonecfg_lines.specs.Runs.{Run, line_run, obeyed_as}

abbrev pub is_revert : Result Command EditFault → Bool
is_revert (Ok (Revert force)) = true
is_revert read = false

-- the subcommands since the base, after some before and then more that are obeyed: `revert` begins anew
abbrev pub since_base : List (List ℕ) → List (List ℕ) → List (List ℕ)
since_base before [] = before
since_base before (text ∷ texts) = since_base (if is_revert (command_of text) then [] else before ++ text ∷ []) texts

-- the base then: what is stored, once there was a `revert`
abbrev pub base_after : Option Base → Option Base → List (List ℕ) → Option Base
base_after stored base [] = base
base_after stored base (text ∷ texts) = base_after stored (if is_revert (command_of text) then stored else base) texts

-- what is edited after subcommands is what they denote, with those before them, since its base
pub record AreDenoted (stored : Option Base) (before texts : List (List ℕ)) (old new : Edited) : Type 0 where
  pub base : new.base ≡ base_after stored old.base texts
  pub after : IsAfter (since_base before texts) new

-- a law: where no subcommand of a line is refused, what is edited after the line is what they denote
abbrev pub LineDenotes : Type 0
LineDenotes =
    (stored : Option Base) (brands : List (List ℕ)) (line : List ℕ) (texts before : List (List ℕ)) (e : Edited) (ending : Ending)
    → IsAfter before e → subcommands_of line ≡ Ok texts → (line_run stored brands line e).end ≡ Ok ending
    → AreDenoted stored before texts e (line_run stored brands line e).edited

-- a subcommand of a line is refused: what is edited is what those before it denote, and it is refused for that there
pub record IsRefused (stored : Option Base) (brands : List (List ℕ)) (texts before : List (List ℕ)) (e : Edited) (r : Run) : Type 0 where
  pub front : List (List ℕ)
  pub refused : List ℕ
  pub rest : List (List ℕ)
  pub line : texts ≡ front ++ refused ∷ rest
  pub stands : AreDenoted stored before front e r.edited
  pub cause : (obeyed_as stored brands (command_of refused) r.edited).end ≡ r.end

-- a law: where a line is refused, but not as a whole, it is for a subcommand of it, and those before that one stand
abbrev pub RefusedLineStands : Type 0
RefusedLineStands =
    (stored : Option Base) (brands : List (List ℕ)) (line : List ℕ) (texts before : List (List ℕ)) (e : Edited) (refusal : LineRefusal)
    → IsAfter before e → subcommands_of line ≡ Ok texts → has_misplaced texts ≡ false → (line_run stored brands line e).end ≡ Err refusal
    → IsRefused stored brands texts before e (line_run stored brands line e)
