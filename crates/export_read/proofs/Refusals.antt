-- What a call's answer means for the line that made it.
use Rattle.std.proofs.Common.{◌≡◌, Some, Result, Ok, Err, ap}
use Rattle.std.specs.Result.{result_ok}
use Rattle.config_terms.specs.Edits.{Changes}
use Rattle.config_terms.specs.declared.fault.ConfigFault.{ConfigFault}
use Rattle.config_terms.specs.declared.fault.ConfigFault.TheVariants.{Memory, NotExport, UnknownProperty, BadValue, Duplicate, NoMatch, SeveralMatch, TooMany, AliasHeld, TooLarge}
use Rattle.export_read.specs.Halts.{Puts, halt_of}
use Rattle.export_read.specs.declared.halt.Halt.{Halt}

pub done : {A : Type 0} (said : Result A ConfigFault) (new : A) → said ≡ Ok new → result_ok said ≡ Some new
done said new h = ap result_ok h

pub refused : {A : Type 0} (old new : A) (said : Result A ConfigFault) (e : ConfigFault) → (let r : Result (Unit {0}) ConfigFault = Err e in Changes old new r said)
    → (let r : Result A Halt = Err (halt_of e) in Puts (result_ok said) r)
refused old new said Memory h = tt
refused old new said (NotExport n) h = ap result_ok h.0
refused old new said UnknownProperty h = ap result_ok h.0
refused old new said BadValue h = ap result_ok h.0
refused old new said Duplicate h = ap result_ok h.0
refused old new said NoMatch h = ap result_ok h.0
refused old new said (SeveralMatch n) h = ap result_ok h.0
refused old new said (TooMany n) h = ap result_ok h.0
refused old new said AliasHeld h = ap result_ok h.0
refused old new said (TooLarge n) h = ap result_ok h.0
