-- How far the calls came with a run: to its end, or memory ran out.
use Rattle.std.specs.Prelude.{◌≡◌, ℕ, List, ◌++◌, Bool, true, false, IsTrue, Result, Ok, Err}
use Rattle.config_verify.specs.declared.flaw.Flaw.{Flaw}
use Rattle.config_verify.specs.declared.flaw.Flaw.TheVariants as flaw
use Rattle.zonecfg_scopes.specs.declared.fault.EditFault.{EditFault}
use Rattle.zonecfg_scopes.specs.declared.fault.EditFault.TheVariants as edit
use Rattle.zonecfg_scopes.specs.Edited.{Edited}
use Rattle.zonecfg_lines.specs.declared.refusal.Halt.{Halt}
use Rattle.zonecfg_lines.specs.declared.refusal.Halt.TheVariants.{Memory, Refused}
use Rattle.zonecfg_lines.specs.declared.refusal.LineRefusal.{LineRefusal}
use Rattle.zonecfg_lines.specs.declared.refusal.LineRefusal.TheVariants.{Edit, Flawed}
use Rattle.zonecfg_lines.specs.declared.reply.Ending.{Ending}
use Rattle.zonecfg_lines.specs.Runs.{Run}

-- a fault, and a flaw, as what ends a line
abbrev pub halted : EditFault → Halt
halted edit.Memory = Memory
halted fault = Refused (Edit fault)

abbrev pub found : Flaw → Halt
found flaw.Memory = Memory
found other = Refused (Flawed other)

-- a refusal is for another cause than that memory ran out
abbrev pub has_cause : Result Ending LineRefusal → Bool
has_cause (Err (Edit edit.Memory)) = false
has_cause (Err (Flawed flaw.Memory)) = false
has_cause end = true

-- a run was made: something new is edited, its lines were told after others, and it ended so
pub record IsMade (r : Run) (before : List (List ℕ)) (new : Edited) (told : List (List ℕ)) (end : Result Ending LineRefusal) : Type 0 where
  pub edited : r.edited ≡ new
  pub lines : told ≡ before ++ r.told
  pub ended : r.end ≡ end
  pub caused : IsTrue (has_cause end)

-- a run was made, or memory ran out
abbrev pub Makes : Run → List (List ℕ) → Edited → List (List ℕ) → Result Ending Halt → Type 0
Makes r before new told (Ok ending) = IsMade r before new told (Ok ending)
Makes r before new told (Err Memory) = Unit {0}
Makes r before new told (Err (Refused refusal)) = IsMade r before new told (Err refusal)
