-- What setting and clearing a property make of a configuration, or why they are refused.
use Rattle.std.specs.Prelude.{ℕ, List, [], ◌∷◌, Bool, false, not, ◌&&◌, position, remove, Option, Some, None, Result, Ok, Err, if◌then◌else◌}
use Rattle.std.specs.List.{list_any}
use Rattle.std.specs.Str.{bytes_eq}
use Rattle.zn_base.specs.declared.values.Value.{Value}
use Rattle.zn_base.specs.declared.values.Value.TheVariants.{Simple}
use Rattle.config_terms.specs.declared.fault.ConfigFault.{ConfigFault}
use Rattle.config_terms.specs.declared.fault.ConfigFault.TheVariants.{UnknownProperty, BadValue, AliasHeld}
use Rattle.config_terms.specs.declared.terms.Limit.{Limit}
use Rattle.config_terms.specs.declared.terms.Rctl.{Rctl}
use Rattle.config_terms.specs.declared.terms.Resource.TheVariants as resource
use Rattle.config_terms.specs.Numbers.{number_of}
use Rattle.config_terms.specs.Rules.{obeys}
use Rattle.zone_config.specs.declared.terms.Contents.{Contents}
use Rattle.zone_config.specs.declared.terms.Property.{Property}
use Rattle.zone_config.specs.declared.terms.Alias.{Alias}
use Rattle.zone_config.specs.declared.terms.Setting.{Setting}
use Rattle.zone_config.specs.declared.terms.Setting.TheVariants.{Kept, Aliased}
use Rattle.zone_config.specs.Property.{property_rule, with_value, without_value, rctl_name, denies, setting_named}
use Rattle.zone_config.specs.Export.{sized}
use Rattle.zone_config.specs.Resources.{added, limit_passed, replaced, unless_passed}

-- a property set to a value, if its rule allows the value
abbrev pub property_set : Property → List ℕ → Contents → Result Contents ConfigFault
property_set p value c = if obeys (property_rule p) value then sized (with_value p value c) else Err BadValue

-- the rctl that an alias with a limit is kept as: one value, with the alias's action
abbrev pub alias_rctl : Alias → ℕ → Rctl
alias_rctl a n = record { name = rctl_name a; values = record { limit = n; deny = denies a } ∷ [] }

-- whether an rctl has the name of an alias's
abbrev pub is_named_for : Alias → Rctl → Bool
is_named_for a r = bytes_eq r.name (rctl_name a)

abbrev pub has_action : Bool → Limit → Bool
has_action deny v = if v.deny then deny else not deny

-- one value, with this action
abbrev pub is_single : Bool → List Limit → Bool
is_single deny [] = false
is_single deny (v ∷ []) = has_action deny v
is_single deny (v ∷ w ∷ vs) = false

-- whether an rctl of the alias's name has another form
abbrev pub holds : Alias → Rctl → Bool
holds a r = is_named_for a r && not (is_single (denies a) r.values)

abbrev pub is_held : Alias → List Rctl → Bool
is_held a rctls = list_any (holds a) rctls

-- where the rctl of an alias's name stands
abbrev pub place_of : Alias → List Rctl → Option ℕ
place_of a rctls = position (is_named_for a) rctls

-- an rctl in the place of another, or last where there is none
abbrev pub rctl_put : Option ℕ → Rctl → Contents → Result Contents ConfigFault
rctl_put (Some place) r c = sized (replaced place (resource.Rctl r) c)
rctl_put None r c = unless_passed (limit_passed (resource.Rctl r) c) (added (resource.Rctl r) c)

abbrev pub limit_set : Alias → Option ℕ → Contents → Result Contents ConfigFault
limit_set a None c = Err BadValue
limit_set a (Some n) c = if is_held a c.rctl then Err AliasHeld else rctl_put (place_of a c.rctl) (alias_rctl a n) c

-- an alias set to a value, if it is a number
unfoldable pub alias_set : Alias → List ℕ → Contents → Result Contents ConfigFault
alias_set a value c = limit_set a (number_of value) c

abbrev pub setting_set : Setting → List ℕ → Contents → Result Contents ConfigFault
setting_set (Kept p) value c = property_set p value c
setting_set (Aliased a) value c = alias_set a value c

-- a text alone is a value of a property of the global scope
abbrev pub value_set : Setting → Value → Contents → Result Contents ConfigFault
value_set s (Simple value) c = setting_set s value c
value_set s value c = Err BadValue

abbrev pub named_set : Option Setting → Value → Contents → Result Contents ConfigFault
named_set None value c = Err UnknownProperty
named_set (Some s) value c = value_set s value c

-- the configuration with the property of a name set, or the refusal
unfoldable pub with_property : List ℕ → Value → Contents → Result Contents ConfigFault
with_property name value c = named_set (setting_named name) value c

abbrev pub without_rctl : Option ℕ → Contents → Contents
without_rctl None c = c
without_rctl (Some place) c = record c { rctl = remove c.rctl place }

-- an alias cleared: its rctl is taken out, if there is one
unfoldable pub alias_cleared : Alias → Contents → Result Contents ConfigFault
alias_cleared a c = if is_held a c.rctl then Err AliasHeld else Ok (without_rctl (place_of a c.rctl) c)

abbrev pub setting_cleared : Setting → Contents → Result Contents ConfigFault
setting_cleared (Kept p) c = sized (without_value p c)
setting_cleared (Aliased a) c = alias_cleared a c

abbrev pub named_cleared : Option Setting → Contents → Result Contents ConfigFault
named_cleared None c = Err UnknownProperty
named_cleared (Some s) c = setting_cleared s c

-- the configuration with the property of a name as it is before it is set, or the refusal
unfoldable pub without_property : List ℕ → Contents → Result Contents ConfigFault
without_property name c = named_cleared (setting_named name) c
