-- How what a subcommand of zonecfg(8) is refused for is printed: the code, the name, and what it is about.
use Rattle.std.specs.Prelude.{ℕ, List, ◌++◌, codes}
use Rattle.std.specs.Fmt.{decimal}
use Rattle.zonecfg_lex.specs.declared.fault.LexFault.{LexFault}
use Rattle.zonecfg_lex.specs.declared.fault.LexFault.TheVariants as lex
use Rattle.config_terms.specs.declared.fault.ConfigFault.{ConfigFault}
use Rattle.config_terms.specs.declared.fault.ConfigFault.TheVariants as config
use Rattle.config_terms.specs.Fields.{kind_name}
use Rattle.zonecfg_scopes.specs.declared.fault.EditFault.{EditFault}
use Rattle.zonecfg_scopes.specs.declared.fault.EditFault.TheVariants as edit
use Rattle.zonecfg_scopes.specs.declared.fault.Scope.{Scope}
use Rattle.zonecfg_scopes.specs.declared.fault.Scope.TheVariants as scope

-- running out of memory is no refusal that is told
abbrev pub lex_text : LexFault → List ℕ
lex_text lex.Memory = codes "no memory"
lex_text (lex.OpenQuote place) = codes "11 OpenQuote " ++ decimal place
lex_text (lex.StrayByte place) = codes "12 StrayByte " ++ decimal place
lex_text (lex.OpenBracket place) = codes "13 OpenBracket " ++ decimal place
lex_text (lex.NoValue place) = codes "14 NoValue " ++ decimal place

abbrev pub config_text : ConfigFault → List ℕ
config_text config.Memory = codes "no memory"
config_text (config.NotExport line) = codes "21 NotExport " ++ decimal line
config_text config.UnknownProperty = codes "22 UnknownProperty"
config_text config.BadValue = codes "23 BadValue"
config_text config.Duplicate = codes "24 Duplicate"
config_text config.NoMatch = codes "25 NoMatch"
config_text (config.SeveralMatch count) = codes "26 SeveralMatch " ++ decimal count
config_text (config.TooMany most) = codes "27 TooMany " ++ decimal most
config_text config.AliasHeld = codes "28 AliasHeld"
config_text (config.TooLarge size) = codes "29 TooLarge " ++ decimal size

abbrev pub scope_text : Scope → List ℕ
scope_text scope.Global = codes "global"
scope_text (scope.Resource kind) = kind_name kind

abbrev pub edit_text : EditFault → List ℕ
edit_text edit.Memory = codes "no memory"
edit_text (edit.Lex fault) = lex_text fault
edit_text edit.UnknownCommand = codes "31 UnknownCommand"
edit_text edit.Usage = codes "35 Usage"
edit_text edit.NotHere = codes "36 NotHere"
edit_text edit.NothingOpen = codes "33 NothingOpen"
edit_text (edit.WrongScope scope) = codes "32 WrongScope " ++ scope_text scope
edit_text edit.NeedForce = codes "34 NeedForce"
edit_text (edit.Config fault) = config_text fault
