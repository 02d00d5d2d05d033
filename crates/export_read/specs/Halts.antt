-- Answers of a reader that stops where a line is refused.
use Rattle.std.specs.Prelude.{◌≡◌, Option, Some, None, Result, Ok, Err}
use Rattle.config_terms.specs.declared.fault.ConfigFault.{ConfigFault}
use Rattle.config_terms.specs.declared.fault.ConfigFault.TheVariants.{Memory as NoMemory}
use Rattle.export_read.specs.declared.halt.Halt.{Halt}
use Rattle.export_read.specs.declared.halt.Halt.TheVariants.{Memory, Refused}

-- what was said came to be, or it was refused, or memory ran out
abbrev pub Puts : {A : Type 0} → Option A → Result A Halt → Type 0
Puts said (Ok x) = said ≡ Some x
Puts said (Err Refused) = said ≡ None
Puts said (Err Memory) = Unit {0}

abbrev pub halt_of : ConfigFault → Halt
halt_of NoMemory = Memory
halt_of _ = Refused
