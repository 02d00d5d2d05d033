-- The tests of `Same_faults` say what is one.
use Rattle.std.proofs.Common.{◌≡◌, true, refl, ap}
use Rattle.std.specs.Bool.{Decides}
use Rattle.std.proofs.lemmas.Bool.{eq-eqb, eqb-true, false≢true}
use Rattle.zn_base.proofs.Same_laws.{decides}
use Rattle.config_terms.specs.contracts.terms.Kind.{the_type as kind_type}
use Rattle.config_terms.specs.declared.fault.ConfigFault.{ConfigFault}
use Rattle.config_terms.specs.declared.fault.ConfigFault.TheVariants as config
use Rattle.config_terms.specs.declared.terms.Kind.{Kind}
use Rattle.zonecfg_lex.specs.declared.fault.LexFault.{LexFault}
use Rattle.zonecfg_lex.specs.declared.fault.LexFault.TheVariants as lex
use Rattle.zonecfg_scopes.specs.declared.fault.EditFault.{EditFault}
use Rattle.zonecfg_scopes.specs.declared.fault.EditFault.TheVariants as edit
use Rattle.zonecfg_scopes.specs.declared.fault.Scope.{Scope}
use Rattle.zonecfg_scopes.specs.declared.fault.Scope.TheVariants as scope
use Rattle.zone_machine.specs.Machine.Same_faults.{same_config_fault, same_edit_fault, same_lex_fault, same_scope}
use denote.Enum.Bare.{same_true, sameb, true_same}

lex-true : (a b : LexFault) → same_lex_fault a b ≡ true → a ≡ b
lex-true lex.Memory lex.Memory h = refl
lex-true (lex.OpenQuote m) (lex.OpenQuote n) h = ap lex.OpenQuote (eqb-true m n h)
lex-true (lex.StrayByte m) (lex.StrayByte n) h = ap lex.StrayByte (eqb-true m n h)
lex-true (lex.OpenBracket m) (lex.OpenBracket n) h = ap lex.OpenBracket (eqb-true m n h)
lex-true (lex.NoValue m) (lex.NoValue n) h = ap lex.NoValue (eqb-true m n h)
lex-true _ _ h = absurd (false≢true h)

lex-self : (a : LexFault) → same_lex_fault a a ≡ true
lex-self lex.Memory = refl
lex-self (lex.OpenQuote n) = eq-eqb n n refl
lex-self (lex.StrayByte n) = eq-eqb n n refl
lex-self (lex.OpenBracket n) = eq-eqb n n refl
lex-self (lex.NoValue n) = eq-eqb n n refl

config-true : (a b : ConfigFault) → same_config_fault a b ≡ true → a ≡ b
config-true config.Memory config.Memory h = refl
config-true (config.NotExport m) (config.NotExport n) h = ap config.NotExport (eqb-true m n h)
config-true config.UnknownProperty config.UnknownProperty h = refl
config-true config.BadValue config.BadValue h = refl
config-true config.Duplicate config.Duplicate h = refl
config-true config.NoMatch config.NoMatch h = refl
config-true (config.SeveralMatch m) (config.SeveralMatch n) h = ap config.SeveralMatch (eqb-true m n h)
config-true (config.TooMany m) (config.TooMany n) h = ap config.TooMany (eqb-true m n h)
config-true config.AliasHeld config.AliasHeld h = refl
config-true (config.TooLarge m) (config.TooLarge n) h = ap config.TooLarge (eqb-true m n h)
config-true _ _ h = absurd (false≢true h)

config-self : (a : ConfigFault) → same_config_fault a a ≡ true
config-self config.Memory = refl
config-self (config.NotExport n) = eq-eqb n n refl
config-self config.UnknownProperty = refl
config-self config.BadValue = refl
config-self config.Duplicate = refl
config-self config.NoMatch = refl
config-self (config.SeveralMatch n) = eq-eqb n n refl
config-self (config.TooMany n) = eq-eqb n n refl
config-self config.AliasHeld = refl
config-self (config.TooLarge n) = eq-eqb n n refl

kind-Decides : (a b : Kind) → Decides (sameb kind_type a b) (a ≡ b)
kind-Decides a b = (same_true kind_type tt a b, true_same kind_type a b)

scope-true : (a b : Scope) → same_scope a b ≡ true → a ≡ b
scope-true scope.Global scope.Global h = refl
scope-true (scope.Resource k) (scope.Resource l) h = ap scope.Resource ((kind-Decides k l).0 h)
scope-true _ _ h = absurd (false≢true h)

scope-self : (a : Scope) → same_scope a a ≡ true
scope-self scope.Global = refl
scope-self (scope.Resource k) = (kind-Decides k k).1 refl

edit-true : (a b : EditFault) → same_edit_fault a b ≡ true → a ≡ b
edit-true edit.Memory edit.Memory h = refl
edit-true (edit.Lex a) (edit.Lex b) h = ap edit.Lex (lex-true a b h)
edit-true edit.UnknownCommand edit.UnknownCommand h = refl
edit-true edit.Usage edit.Usage h = refl
edit-true edit.NotHere edit.NotHere h = refl
edit-true edit.NothingOpen edit.NothingOpen h = refl
edit-true (edit.WrongScope a) (edit.WrongScope b) h = ap edit.WrongScope (scope-true a b h)
edit-true edit.NeedForce edit.NeedForce h = refl
edit-true (edit.Config a) (edit.Config b) h = ap edit.Config (config-true a b h)
edit-true _ _ h = absurd (false≢true h)

edit-self : (a : EditFault) → same_edit_fault a a ≡ true
edit-self edit.Memory = refl
edit-self (edit.Lex a) = lex-self a
edit-self edit.UnknownCommand = refl
edit-self edit.Usage = refl
edit-self edit.NotHere = refl
edit-self edit.NothingOpen = refl
edit-self (edit.WrongScope a) = scope-self a
edit-self edit.NeedForce = refl
edit-self (edit.Config a) = config-self a

pub edit_fault-Decides : (a b : EditFault) → Decides (same_edit_fault a b) (a ≡ b)
edit_fault-Decides = decides same_edit_fault edit-true edit-self
