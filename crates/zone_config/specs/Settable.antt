-- What a user of `set_property` and `clear_property` relies on.
use Rattle.std.specs.Prelude.{◌≡◌, ◌≢◌, ℕ, List, [], ◌∷◌, Bool, false, not, filter, is_some, map, Option, Some, None, Result, IfErr, OnOk, IsTrue, ◌<◌, ◌≤◌}
use Rattle.std.specs.List.{flat_map}
use Rattle.zn_base.specs.declared.values.Value.{Value}
use Rattle.zn_base.specs.declared.values.Value.TheVariants.{Simple}
use Rattle.config_terms.specs.declared.fault.ConfigFault.{ConfigFault}
use Rattle.config_terms.specs.declared.fault.ConfigFault.TheVariants.{Memory, UnknownProperty, AliasHeld, TooMany, TooLarge}
use Rattle.config_terms.specs.declared.terms.Resource.{Resource}
use Rattle.config_terms.specs.Edits.{Changes, ChangesSurely}
use Rattle.config_terms.specs.Fields.{kinds}
use Rattle.config_terms.specs.Numbers.{number_of}
use Rattle.config_terms.specs.Rules.{obeys}
use Rattle.zone_config.specs.declared.terms.Alias.{Alias}
use Rattle.zone_config.specs.declared.limits.TheConstants.{RESOURCES_MAX, TEXT_MAX}
use Rattle.zone_config.specs.declared.terms.Contents.{Contents}
use Rattle.zone_config.specs.declared.terms.Property.{Property}
use Rattle.zone_config.specs.declared.terms.Property.TheVariants.{Autoboot}
use Rattle.zone_config.specs.declared.terms.Setting.{Setting}
use Rattle.zone_config.specs.declared.terms.Setting.TheVariants.{Kept, Aliased}
use Rattle.zone_config.specs.Edits.{alias_rctl, is_held, is_named_for, place_of, with_property, without_property}
use Rattle.zone_config.specs.Kinds.{by_kind}
use Rattle.zone_config.specs.Property.{property_rule, setting_named, shown, unset_text}
use Rattle.zone_config.specs.Sound.{IsSound, count}

abbrev pub allows : Setting → List ℕ → Bool
allows (Kept p) text = obeys (property_rule p) text
allows (Aliased a) text = is_some (number_of text)

abbrev pub allows_value : Option Setting → Value → Bool
allows_value (Some s) (Simple text) = allows s text
allows_value s value = false

-- whether there is a property of a name, and its rule allows a value
abbrev pub is_settable : List ℕ → Value → Bool
is_settable name value = allows_value (setting_named name) value

-- all resources, kind by kind
abbrev pub resources : Contents → List Resource
resources c = flat_map (λ k. by_kind k (λ A row. map row.make (row.list c))) kinds

-- a property shows a text, and everything else is as it was
pub record ShowsText (p : Property) (text : List ℕ) (old new : Contents) : Type 0 where
  pub given : shown p new ≡ text
  pub others : (q : Property) → q ≢ p → shown q new ≡ shown q old
  pub same : resources new ≡ resources old

-- an alias is one rctl, of one value with the number given, and everything else is as it was
pub record ShowsLimit (a : Alias) (text : List ℕ) (old new : Contents) : Type 0 where
  pub given : (n : ℕ) → number_of text ≡ Some n → filter (is_named_for a) new.rctl ≡ alias_rctl a n ∷ []
  pub others : filter (λ r. not (is_named_for a r)) new.rctl ≡ filter (λ r. not (is_named_for a r)) old.rctl
  pub same : new ≡ record old { rctl = new.rctl }

abbrev pub Shows : Option Setting → Value → Contents → Contents → Type 0
Shows (Some (Kept p)) (Simple text) old new = ShowsText p text old new
Shows (Some (Aliased a)) (Simple text) old new = ShowsLimit a text old new
Shows s value old new = ⊥

-- an alias has no rctl yet, and there are as many resources as there may be
pub record HasNoPlace (a : Alias) (limit : ℕ) (old : Contents) : Type 0 where
  pub none : place_of a old.rctl ≡ None
  pub told : limit ≡ RESOURCES_MAX
  pub full : RESOURCES_MAX ≤ count old

-- how setting an allowed value may fail: memory runs out, or the text is too long; and of an alias, an rctl of another
-- form holds it, or there is no place for its rctl
abbrev pub MayRefuseSet : Option Setting → Contents → ConfigFault → Type 0
MayRefuseSet None old fault = ⊥
MayRefuseSet (Some s) old Memory = Unit {0}
MayRefuseSet (Some s) old (TooLarge size) = TEXT_MAX < size
MayRefuseSet (Some (Aliased a)) old AliasHeld = IsTrue (is_held a old.rctl)
MayRefuseSet (Some (Aliased a)) old (TooMany limit) = HasNoPlace a limit old
MayRefuseSet (Some s) old fault = ⊥

-- it succeeds only where the value is allowed; there it fails only in these ways; and where it succeeds the value shows
pub record Sets (name : List ℕ) (value : Value) (old new : Contents) (result : Result (Unit {0}) ConfigFault) : Type 0 where
  pub allowed : OnOk result (IsTrue (is_settable name value))
  pub refused : IsTrue (is_settable name value) → IfErr result (MayRefuseSet (setting_named name) old)
  pub shows : OnOk result (Shows (setting_named name) value old new)

abbrev pub SetsWhereAllowed : Type 0
SetsWhereAllowed =
    (name : List ℕ) (value : Value) (old new : Contents) (result : Result (Unit {0}) ConfigFault) → IsSound old
    → Changes old new result (with_property name value old) → Sets name value old new result

-- an alias has no rctl of its name, and everything else is as it was
pub record HasNoLimit (a : Alias) (old new : Contents) : Type 0 where
  pub gone : filter (is_named_for a) new.rctl ≡ []
  pub others : filter (λ r. not (is_named_for a r)) new.rctl ≡ filter (λ r. not (is_named_for a r)) old.rctl
  pub same : new ≡ record old { rctl = new.rctl }

-- a property shows what it does in a blank configuration
abbrev pub IsCleared : Option Setting → Contents → Contents → Type 0
IsCleared None old new = ⊥
IsCleared (Some (Kept p)) old new = ShowsText p (unset_text p) old new
IsCleared (Some (Aliased a)) old new = HasNoLimit a old new

-- how clearing a property of a name may fail: there is none, an rctl of another form holds the alias, or the text with
-- `false` is too long
abbrev pub MayRefuseClear : Option Setting → Contents → ConfigFault → Type 0
MayRefuseClear None old UnknownProperty = Unit {0}
MayRefuseClear (Some (Aliased a)) old AliasHeld = IsTrue (is_held a old.rctl)
MayRefuseClear (Some (Kept Autoboot)) old (TooLarge size) = TEXT_MAX < size
MayRefuseClear s old fault = ⊥

pub record Clears (name : List ℕ) (old new : Contents) (result : Result (Unit {0}) ConfigFault) : Type 0 where
  pub cleared : OnOk result (IsCleared (setting_named name) old new)
  pub refused : IfErr result (MayRefuseClear (setting_named name) old)

abbrev pub ClearsWhereNamed : Type 0
ClearsWhereNamed =
    (name : List ℕ) (old new : Contents) (result : Result (Unit {0}) ConfigFault) → IsSound old
    → ChangesSurely old new result (without_property name old) → Clears name old new result
