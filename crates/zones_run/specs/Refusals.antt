-- Why `export` refuses a line or the end of its input, as standard error reports it: the code, the name, and what it
-- is about.
use Rattle.std.specs.Prelude.{ℕ, List, codes}
use Rattle.config_verify.specs.declared.flaw.Flaw.{Flaw}
use Rattle.config_verify.specs.declared.flaw.Flaw.TheVariants as flaw
use Rattle.trace_text.specs.Edit_faults.{edit_text}
use Rattle.trace_text.specs.Flaws.{flaw_text}
use Rattle.zonecfg_scopes.specs.declared.fault.EditFault.{EditFault}
use Rattle.zonecfg_scopes.specs.declared.fault.EditFault.TheVariants as edit
use Rattle.zones_run.specs.declared.refusal.Refusal.{Refusal}
use Rattle.zones_run.specs.declared.refusal.Refusal.TheVariants.{Memory, Edit, Flawed}

-- a fault, and a flaw, as a refusal
abbrev pub refused : EditFault → Refusal
refused edit.Memory = Memory
refused fault = Edit fault

abbrev pub flawed : Flaw → Refusal
flawed flaw.Memory = Memory
flawed found = Flawed found

unfoldable pub refusal_text : Refusal → List ℕ
refusal_text Memory = codes "no memory"
refusal_text (Edit fault) = edit_text fault
refusal_text (Flawed found) = flaw_text found
