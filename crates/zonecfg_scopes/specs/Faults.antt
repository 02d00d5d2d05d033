-- Faults of other parts, as the editor answers them.
use Rattle.config_terms.specs.declared.fault.ConfigFault.{ConfigFault}
use Rattle.config_terms.specs.declared.fault.ConfigFault.TheVariants as config
use Rattle.zonecfg_lex.specs.declared.fault.LexFault.{LexFault}
use Rattle.zonecfg_lex.specs.declared.fault.LexFault.TheVariants as lex
use Rattle.zonecfg_scopes.specs.declared.fault.EditFault.{EditFault}
use Rattle.zonecfg_scopes.specs.declared.fault.EditFault.TheVariants.{Memory, Lex, Config}

abbrev pub lexed : LexFault → EditFault
lexed lex.Memory = Memory
lexed fault = Lex fault

abbrev pub passed_on : ConfigFault → EditFault
passed_on config.Memory = Memory
passed_on fault = Config fault
