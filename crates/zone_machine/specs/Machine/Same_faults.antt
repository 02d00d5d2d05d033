-- Whether two faults of the editor of zonecfg(8) are one, as a test that computes.
use Rattle.std.specs.Prelude.{Bool, true, false, ◌==◌}
use Rattle.config_terms.specs.contracts.terms.Kind.{the_type as kind_type}
use Rattle.config_terms.specs.declared.fault.ConfigFault.{ConfigFault}
use Rattle.config_terms.specs.declared.fault.ConfigFault.TheVariants as config
use Rattle.zonecfg_lex.specs.declared.fault.LexFault.{LexFault}
use Rattle.zonecfg_lex.specs.declared.fault.LexFault.TheVariants as lex
use Rattle.zonecfg_scopes.specs.declared.fault.EditFault.{EditFault}
use Rattle.zonecfg_scopes.specs.declared.fault.EditFault.TheVariants as edit
use Rattle.zonecfg_scopes.specs.declared.fault.Scope.{Scope}
use Rattle.zonecfg_scopes.specs.declared.fault.Scope.TheVariants as scope
use denote.Enum.Bare.{sameb}

abbrev pub same_lex_fault : LexFault → LexFault → Bool
same_lex_fault lex.Memory lex.Memory = true
same_lex_fault (lex.OpenQuote m) (lex.OpenQuote n) = m == n
same_lex_fault (lex.StrayByte m) (lex.StrayByte n) = m == n
same_lex_fault (lex.OpenBracket m) (lex.OpenBracket n) = m == n
same_lex_fault (lex.NoValue m) (lex.NoValue n) = m == n
same_lex_fault _ _ = false

abbrev pub same_config_fault : ConfigFault → ConfigFault → Bool
same_config_fault config.Memory config.Memory = true
same_config_fault (config.NotExport m) (config.NotExport n) = m == n
same_config_fault config.UnknownProperty config.UnknownProperty = true
same_config_fault config.BadValue config.BadValue = true
same_config_fault config.Duplicate config.Duplicate = true
same_config_fault config.NoMatch config.NoMatch = true
same_config_fault (config.SeveralMatch m) (config.SeveralMatch n) = m == n
same_config_fault (config.TooMany m) (config.TooMany n) = m == n
same_config_fault config.AliasHeld config.AliasHeld = true
same_config_fault (config.TooLarge m) (config.TooLarge n) = m == n
same_config_fault _ _ = false

abbrev pub same_scope : Scope → Scope → Bool
same_scope scope.Global scope.Global = true
same_scope (scope.Resource k) (scope.Resource l) = sameb kind_type k l
same_scope _ _ = false

abbrev pub same_edit_fault : EditFault → EditFault → Bool
same_edit_fault edit.Memory edit.Memory = true
same_edit_fault (edit.Lex a) (edit.Lex b) = same_lex_fault a b
same_edit_fault edit.UnknownCommand edit.UnknownCommand = true
same_edit_fault edit.Usage edit.Usage = true
same_edit_fault edit.NotHere edit.NotHere = true
same_edit_fault edit.NothingOpen edit.NothingOpen = true
same_edit_fault (edit.WrongScope a) (edit.WrongScope b) = same_scope a b
same_edit_fault edit.NeedForce edit.NeedForce = true
same_edit_fault (edit.Config a) (edit.Config b) = same_config_fault a b
same_edit_fault _ _ = false
